-- Marks, by computation.
use mathlib.Core.Path.{refl}
use Rattle.def_refusals.specs.Answers.{answer_of, filled_of}
use Rattle.def_wire.specs.Bytes.{pair_up}
use Rattle.def_wire.specs.Packet.{header_of, place_of, walk_from, count_of, locate}
use Rattle.def_wire.specs.Block.{rle_of, ranged_of, kind_of, standard_rule, crate_rule, fitness, check_of, fields_of}
use Rattle.def_wire.specs.Block.{has, clear_rule}
use Rattle.def_standard.specs.Chunks.{values_in}
use Rattle.def_standard.specs.Range.{ahead_of, range_of, offset_of, inside, number_of}
use Rattle.def_standard.specs.Standard.{values_of, numbers_from}
use Rattle.def_crate.specs.Sequence.{passes, offset_sequence}
use Rattle.def_crate.specs.Crate.{ones_in, tries_from, crate_numbers_from}
use Rattle.def_questions.specs.Questions.{numbers_shown}
use Rattle.def_questions.specs.Packets.{numbers_asked}
use Rattle.def_jobs.specs.Shown.{record_of, numbers_row}
use Rattle.def_jobs.specs.Jobs.{pair_low, jobs_from, is_header_job, is_block_job, jobs_fault}
use Rattle.def_jobs.specs.Layout.{zeros_behind, block_bytes, blocks_bytes, layout_of}
use Rattle.def_jobs.specs.Writing.{misleading_from, write_fault, packet_of}
use Rattle.def_marks.specs.Marks.{run_of, bits_of, word_for, taken_by, words_from, bad_from, marks_fault, marks_asked}
use Rattle.def_marks.specs.Report.{loss_list, heard_of}
use Rattle.examples.specs.Marks.{NextWord, Words, MarksRefused, Reports, ReportReadBack}

pub next-word-hold : NextWord
unfolding run_of bits_of word_for taken_by
next-word-hold =
    record {
      limits = (refl, refl, refl);
      in_a_row = (refl, refl, refl, refl);
      bits = (refl, refl, refl, refl, refl, refl);
      first = (refl, refl, refl);
      from-the-first = (refl, refl, refl);
      run-or-not = (refl, refl, refl, refl, refl, refl, refl);
      as-long-as-can-be = (refl, refl, refl, refl);
      run-word = (refl, refl, refl, refl);
      vector-word = (refl, refl, refl, refl, refl);
      taken = (refl, refl, refl, refl, refl);
    }

pub words-hold : Words
unfolding run_of bits_of word_for taken_by words_from
words-hold =
    record {
      none = refl;
      fifteen = (refl, refl);
      three-zeros = refl;
      over-a-run = refl;
      from-the-present-mark-on = refl;
      one-after-another = refl;
      vectors = refl;
      fuel = (refl, refl, refl);
    }

pub marks-refused-hold : MarksRefused
unfolding run_of bits_of word_for taken_by words_from bad_from marks_fault marks_asked answer_of filled_of
marks-refused-hold =
    record {
      fourteen = (refl, refl, refl, refl);
      seventeen = (refl, refl, refl, refl, refl);
      judged = (refl, refl, refl);
      at-the-limit = refl;
      one-over = (refl, refl);
      asked = (refl, refl, refl);
      into-a-list = (
        record { answer = refl; filled = refl },
        record { answer = refl; filled = refl },
        record { answer = refl; filled = refl },
        record { answer = refl; filled = refl },
      );
    }

pub reports-hold : Reports
unfolding run_of bits_of word_for taken_by words_from loss_list heard_of
reports-hold =
    record {
      low = (refl, refl);
      a-record = refl;
      header = refl;
      loss = refl;
      both-records = refl;
      end = (refl, refl, refl, refl);
      whole-circle = refl;
      report = refl;
      numbers = (refl, refl, refl, refl);
    }

pub report-read-back-hold : ReportReadBack
unfolding run_of bits_of word_for taken_by words_from loss_list heard_of pair_up header_of place_of walk_from count_of locate rle_of
    ranged_of kind_of standard_rule crate_rule fitness check_of fields_of values_in range_of offset_of inside number_of values_of
    numbers_from passes offset_sequence ones_in tries_from crate_numbers_from numbers_shown numbers_asked record_of numbers_row
    pair_low jobs_from is_header_job is_block_job jobs_fault zeros_behind block_bytes blocks_bytes layout_of misleading_from
    write_fault packet_of has clear_rule ahead_of
report-read-back-hold =
    record {
      word = refl;
      plain = refl;
      careful = refl;
      standard = refl;
      crate = refl;
      heard = refl;
    }
