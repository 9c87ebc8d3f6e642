-- JobsLayout, by computation.
use mathlib.Core.Path.{refl}
use Rattle.def_refusals.specs.Numbers.{numbered}
use Rattle.def_refusals.specs.Answers.{answer_of, filled_of}
use Rattle.def_wire.specs.Bytes.{pair_up}
use Rattle.def_wire.specs.Packet.{header_of, place_of, walk_from, count_of, locate}
use Rattle.def_wire.specs.Block.{rle_of, ranged_of, kind_of, standard_rule, crate_rule, fitness, check_of, fields_of, time_of}
use Rattle.def_standard.specs.Chunks.{values_in, chunk_of, word_of}
use Rattle.def_standard.specs.Range.{ahead_of, range_of, offset_of, inside, number_of}
use Rattle.def_standard.specs.Standard.{values_of, numbers_from, pairs_from, echoes_of}
use Rattle.def_crate.specs.Sequence.{passes, offset_sequence}
use Rattle.def_crate.specs.Crate.{ones_in, tries_from, crate_numbers_from, crate_pairs_from}
use Rattle.def_questions.specs.Questions.{words_shown, numbers_shown, pairs_shown, entries_shown}
use Rattle.def_questions.specs.Packets.{words_asked, numbers_asked, pairs_asked, entries_asked, fields_asked, time_asked}
use Rattle.def_questions.specs.ByNumber.{words_by, numbers_by, fields_by}
use Rattle.def_cursor.specs.Cursor.{legal, step_of, listed_at, taken_by, after_steps, listed_by, steps_left, advance_fault}
use Rattle.def_cursor.specs.Cursor.{advance_of, stretch_filled}
use Rattle.def_jobs.specs.Shown.{record_of, numbers_row}
use Rattle.def_jobs.specs.Jobs.{pair_low, jobs_from, is_header_job, is_block_job, jobs_fault, asked_of}
use Rattle.def_jobs.specs.Layout.{zeros_behind, block_bytes, blocks_bytes, layout_of}
use Rattle.def_jobs.specs.Writing.{misleading_from, write_fault, packet_of}
use Rattle.examples.specs.JobsLayout.{Zeros, Pieces, Blocks, Packets}

pub zeros-hold : Zeros
unfolding numbered answer_of filled_of pair_up header_of place_of walk_from count_of locate rle_of ranged_of kind_of
    standard_rule crate_rule fitness check_of fields_of time_of values_in chunk_of word_of range_of offset_of inside number_of
    values_of numbers_from pairs_from echoes_of passes offset_sequence ones_in tries_from crate_numbers_from crate_pairs_from
    words_shown numbers_shown pairs_shown entries_shown words_asked numbers_asked pairs_asked entries_asked fields_asked
    time_asked words_by numbers_by fields_by legal step_of listed_at taken_by after_steps listed_by steps_left advance_fault
    advance_of stretch_filled record_of numbers_row pair_low jobs_from is_header_job is_block_job jobs_fault asked_of zeros_behind
    block_bytes blocks_bytes layout_of misleading_from write_fault packet_of ahead_of
zeros-hold =
    record {
      odd = refl;
      last = (refl, refl, refl);
      plain = refl;
      careful = refl;
    }

pub pieces-hold : Pieces
unfolding numbered answer_of filled_of pair_up header_of place_of walk_from count_of locate rle_of ranged_of kind_of
    standard_rule crate_rule fitness check_of fields_of time_of values_in chunk_of word_of range_of offset_of inside number_of
    values_of numbers_from pairs_from echoes_of passes offset_sequence ones_in tries_from crate_numbers_from crate_pairs_from
    words_shown numbers_shown pairs_shown entries_shown words_asked numbers_asked pairs_asked entries_asked fields_asked
    time_asked words_by numbers_by fields_by legal step_of listed_at taken_by after_steps listed_by steps_left advance_fault
    advance_of stretch_filled record_of numbers_row pair_low jobs_from is_header_job is_block_job jobs_fault asked_of zeros_behind
    block_bytes blocks_bytes layout_of misleading_from write_fault packet_of ahead_of
pieces-hold =
    record {
      each_number = (refl, refl);
      four_bytes = (refl, refl, refl);
      fields-and-rest = refl;
      words = (refl, refl, refl, refl, refl);
      padding = (refl, refl, refl);
      first_byte_lem = refl;
    }

pub blocks-hold : Blocks
unfolding numbered answer_of filled_of pair_up header_of place_of walk_from count_of locate rle_of ranged_of kind_of
    standard_rule crate_rule fitness check_of fields_of time_of values_in chunk_of word_of range_of offset_of inside number_of
    values_of numbers_from pairs_from echoes_of passes offset_sequence ones_in tries_from crate_numbers_from crate_pairs_from
    words_shown numbers_shown pairs_shown entries_shown words_asked numbers_asked pairs_asked entries_asked fields_asked
    time_asked words_by numbers_by fields_by legal step_of listed_at taken_by after_steps listed_by steps_left advance_fault
    advance_of stretch_filled record_of numbers_row pair_low jobs_from is_header_job is_block_job jobs_fault asked_of zeros_behind
    block_bytes blocks_bytes layout_of misleading_from write_fault packet_of ahead_of
blocks-hold =
    record {
      loss = (refl, refl, refl, refl);
      duplicate = refl;
      receipt-times = (refl, refl);
      time = (refl, refl);
      entries = (refl, refl);
      other = refl;
      all = (refl, refl);
      all-careful = refl;
    }

pub packets-hold : Packets
unfolding numbered answer_of filled_of pair_up header_of place_of walk_from count_of locate rle_of ranged_of kind_of
    standard_rule crate_rule fitness check_of fields_of time_of values_in chunk_of word_of range_of offset_of inside number_of
    values_of numbers_from pairs_from echoes_of passes offset_sequence ones_in tries_from crate_numbers_from crate_pairs_from
    words_shown numbers_shown pairs_shown entries_shown words_asked numbers_asked pairs_asked entries_asked fields_asked
    time_asked words_by numbers_by fields_by legal step_of listed_at taken_by after_steps listed_by steps_left advance_fault
    advance_of stretch_filled record_of numbers_row pair_low jobs_from is_header_job is_block_job jobs_fault asked_of zeros_behind
    block_bytes blocks_bytes layout_of misleading_from write_fault packet_of ahead_of
packets-hold =
    record {
      empty = (refl, refl);
      sender-first = refl;
      with-padding = (refl, refl);
      around = (refl, refl);
      length-field = refl;
      layouts = (refl, refl);
      nothing = refl;
    }
