-- Questions, by computation.
use mathlib.Core.Path.{refl}
use Rattle.def_refusals.specs.Numbers.{numbered}
use Rattle.def_refusals.specs.Answers.{answer_of, filled_of}
use Rattle.def_wire.specs.Bytes.{pair_up}
use Rattle.def_wire.specs.Packet.{header_of, place_of, walk_from, count_of, locate}
use Rattle.def_wire.specs.Block.{rle_of, ranged_of, kind_of, standard_rule, crate_rule, fitness, check_of, fields_of, time_of}
use Rattle.def_wire.specs.Block.{has, clear_rule}
use Rattle.def_standard.specs.Chunks.{values_in, chunk_of, word_of}
use Rattle.def_standard.specs.Range.{ahead_of, range_of, offset_of, inside, number_of}
use Rattle.def_standard.specs.Standard.{values_of, numbers_from, pairs_from, echoes_of}
use Rattle.def_crate.specs.Sequence.{passes, offset_sequence}
use Rattle.def_crate.specs.Crate.{ones_in, tries_from, crate_numbers_from, crate_pairs_from}
use Rattle.def_questions.specs.Questions.{words_shown, numbers_shown, pairs_shown, entries_shown}
use Rattle.def_questions.specs.Packets.{words_asked, numbers_asked, pairs_asked, entries_asked, fields_asked, time_asked}
use Rattle.def_questions.specs.ByNumber.{words_by, numbers_by, fields_by}
use Rattle.examples.specs.Questions.{OfAView, OfAPacket, LostRun, ByNumber, SideBySide}

pub of-a-view-hold : OfAView
unfolding numbered answer_of filled_of pair_up header_of place_of walk_from count_of locate rle_of ranged_of kind_of
    standard_rule crate_rule fitness check_of fields_of time_of values_in chunk_of word_of range_of offset_of inside number_of
    values_of numbers_from pairs_from echoes_of passes offset_sequence ones_in tries_from crate_numbers_from crate_pairs_from
    words_shown numbers_shown pairs_shown entries_shown words_asked numbers_asked pairs_asked entries_asked fields_asked
    time_asked words_by numbers_by fields_by has clear_rule ahead_of
of-a-view-hold =
    record {
      words = (refl, refl, refl, refl);
      numbers = (refl, refl, refl, refl);
      ten = (refl, refl, refl, refl, refl);
      seven = (refl, refl, refl, refl, refl);
      seven-by-length = (refl, refl);
      seven-by-words = (refl, refl, refl, refl, refl, refl);
      lost-run-by-the-crate = (refl, refl, refl, refl);
      no-word-of-times = refl;
      no-list = refl;
      pairs = (refl, refl);
      entries = (refl, refl);
      readings-differ = (refl, refl);
      off-the-grid = (refl, refl, refl, refl, refl, refl);
      none-on-the-grid = (refl, refl, refl, refl);
    }

pub of-a-packet-hold : OfAPacket
unfolding numbered answer_of filled_of pair_up header_of place_of walk_from count_of locate rle_of ranged_of kind_of
    standard_rule crate_rule fitness check_of fields_of time_of values_in chunk_of word_of range_of offset_of inside number_of
    values_of numbers_from pairs_from echoes_of passes offset_sequence ones_in tries_from crate_numbers_from crate_pairs_from
    words_shown numbers_shown pairs_shown entries_shown words_asked numbers_asked pairs_asked entries_asked fields_asked
    time_asked words_by numbers_by fields_by has clear_rule ahead_of
of-a-packet-hold =
    record {
      words = (refl, refl);
      numbers = (refl, refl);
      pairs = (refl, refl);
      entries = (refl, refl);
      of_fields = (refl, refl);
      time = (refl, refl);
      nine = (refl, refl, refl, refl, refl, refl);
      one-to-six = (refl, refl, refl, refl);
      ten = (refl, refl, refl, refl, refl, refl);
      seven = (refl, refl);
      from-what-follows = (refl, refl, refl, refl);
      eight-refused = (refl, refl);
    }

pub lost-run-hold : LostRun
unfolding numbered answer_of filled_of pair_up header_of place_of walk_from count_of locate rle_of ranged_of kind_of
    standard_rule crate_rule fitness check_of fields_of time_of values_in chunk_of word_of range_of offset_of inside number_of
    values_of numbers_from pairs_from echoes_of passes offset_sequence ones_in tries_from crate_numbers_from crate_pairs_from
    words_shown numbers_shown pairs_shown entries_shown words_asked numbers_asked pairs_asked entries_asked fields_asked
    time_asked words_by numbers_by fields_by has clear_rule ahead_of
lost-run-hold =
    record {
      refusal = (refl, refl, refl, refl);
      others = (refl, refl, refl);
      after-ten = (refl, refl, refl);
      before-eleven = (record { answer = refl; filled = refl }, record { answer = refl; filled = refl });
      by-the-crate = (refl, refl, refl);
      walked = (refl, refl);
    }

pub by-number-hold : ByNumber
unfolding numbered answer_of filled_of pair_up header_of place_of walk_from count_of locate rle_of ranged_of kind_of
    standard_rule crate_rule fitness check_of fields_of time_of values_in chunk_of word_of range_of offset_of inside number_of
    values_of numbers_from pairs_from echoes_of passes offset_sequence ones_in tries_from crate_numbers_from crate_pairs_from
    words_shown numbers_shown pairs_shown entries_shown words_asked numbers_asked pairs_asked entries_asked fields_asked
    time_asked words_by numbers_by fields_by has clear_rule ahead_of
by-number-hold =
    record {
      served = (refl, refl, refl, refl, refl);
      served-by-two = (refl, refl, refl);
      other = (refl, refl, refl);
      not-served = (refl, refl, refl, refl, refl, refl, refl);
      after-nine = (refl, refl, refl, refl);
      before-seven = (refl, refl, refl, refl, refl, refl, refl, refl);
    }

pub side-by-side-hold : SideBySide
unfolding numbered answer_of filled_of pair_up header_of place_of walk_from count_of locate rle_of ranged_of kind_of
    standard_rule crate_rule fitness check_of fields_of time_of values_in chunk_of word_of range_of offset_of inside number_of
    values_of numbers_from pairs_from echoes_of passes offset_sequence ones_in tries_from crate_numbers_from crate_pairs_from
    words_shown numbers_shown pairs_shown entries_shown words_asked numbers_asked pairs_asked entries_asked fields_asked
    time_asked words_by numbers_by fields_by ahead_of
side-by-side-hold =
    record {
      pairs = (
        record { answer = refl; numbers = refl; times = refl },
        record { answer = refl; numbers = refl; times = refl },
      );
      pairs-short = (
        record { answer = refl; numbers = refl; times = refl },
        record { answer = refl; numbers = refl; times = refl },
      );
      pairs-refused = record { answer = refl; numbers = refl; times = refl };
      entries = (
        record { answer = refl; ssrcs = refl; lasts = refl; delays = refl },
        record { answer = refl; ssrcs = refl; lasts = refl; delays = refl },
      );
      entries-short = (
        record { answer = refl; ssrcs = refl; lasts = refl; delays = refl },
        record { answer = refl; ssrcs = refl; lasts = refl; delays = refl },
        record { answer = refl; ssrcs = refl; lasts = refl; delays = refl },
      );
      entries-refused = record { answer = refl; ssrcs = refl; lasts = refl; delays = refl };
      no-other-pairs = λ r ns ts holds. (holds.answer, holds.numbers, holds.times);
      no-other-entries = λ r ss ls ds holds. (holds.answer, holds.ssrcs, holds.lasts, holds.delays);
    }
