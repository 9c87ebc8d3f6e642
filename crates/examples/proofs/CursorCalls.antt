-- CursorCalls, by computation.
use mathlib.Core.Path.{refl}
use Rattle.def_refusals.specs.Numbers.{numbered}
use Rattle.def_refusals.specs.Answers.{answer_of, filled_of}
use Rattle.def_wire.specs.Bytes.{pair_up}
use Rattle.def_wire.specs.Packet.{header_of, place_of, walk_from, count_of, locate}
use Rattle.def_wire.specs.Block.{rle_of, ranged_of, kind_of, standard_rule, crate_rule, fitness, check_of, fields_of, time_of}
use Rattle.def_wire.specs.Block.{has, clear_rule}
use Rattle.def_standard.specs.Chunks.{values_in, chunk_of, word_of}
use Rattle.def_standard.specs.Range.{ahead_of, range_of, offset_of, inside, number_of}
use Rattle.def_standard.specs.Standard.{values_of, numbers_from, pairs_from, echoes_of}
use Rattle.def_crate.specs.Sequence.{passes, offset_sequence}
use Rattle.def_crate.specs.Crate.{ones_in, tries_from, crate_numbers_from, crate_pairs_from}
use Rattle.def_questions.specs.Questions.{words_shown, numbers_shown, pairs_shown, entries_shown}
use Rattle.def_questions.specs.Packets.{words_asked, numbers_asked, pairs_asked, entries_asked, fields_asked, time_asked}
use Rattle.def_questions.specs.ByNumber.{words_by, numbers_by, fields_by}
use Rattle.def_cursor.specs.Cursor.{legal, step_of, listed_at, taken_by, after_steps, listed_by, steps_left, advance_fault}
use Rattle.def_cursor.specs.Cursor.{advance_of, stretch_filled}
use Rattle.examples.specs.CursorCalls.{OfAView, OfAPacket, LostRun, ByNumber}

pub of-a-view-hold : OfAView
unfolding numbered answer_of filled_of pair_up header_of place_of walk_from count_of locate rle_of ranged_of kind_of
    standard_rule crate_rule fitness check_of fields_of time_of values_in chunk_of word_of range_of offset_of inside number_of
    values_of numbers_from pairs_from echoes_of passes offset_sequence ones_in tries_from crate_numbers_from crate_pairs_from
    words_shown numbers_shown pairs_shown entries_shown words_asked numbers_asked pairs_asked entries_asked fields_asked
    time_asked words_by numbers_by fields_by legal step_of listed_at taken_by after_steps listed_by steps_left advance_fault
    advance_of stretch_filled has clear_rule ahead_of
of-a-view-hold =
    record {
      order = (refl, refl, refl, refl, refl);
      lost-run = (refl, refl, refl, refl, refl, refl, refl);
      all_words = (refl, refl, refl);
      moved = (refl, refl, refl, refl);
      none-taken = (refl, refl, refl);
      stuck = (refl, refl);
      filled = (refl, refl, refl, refl, refl, refl);
      off-the-grid = (refl, refl, refl, refl, refl, refl, refl);
      none-on-the-grid = (refl, refl, refl, refl);
      contract = (
        record { answer = refl; filled = refl },
        record { answer = refl; filled = refl },
        record { answer = refl; filled = refl },
        record { answer = refl; filled = refl },
      );
      no_other = λ r out holds. (holds.answer, holds.filled);
    }

pub of-a-packet-hold : OfAPacket
unfolding numbered answer_of filled_of pair_up header_of place_of walk_from count_of locate rle_of ranged_of kind_of
    standard_rule crate_rule fitness check_of fields_of time_of values_in chunk_of word_of range_of offset_of inside number_of
    values_of numbers_from pairs_from echoes_of passes offset_sequence ones_in tries_from crate_numbers_from crate_pairs_from
    words_shown numbers_shown pairs_shown entries_shown words_asked numbers_asked pairs_asked entries_asked fields_asked
    time_asked words_by numbers_by fields_by legal step_of listed_at taken_by after_steps listed_by steps_left advance_fault
    advance_of stretch_filled has clear_rule ahead_of
of-a-packet-hold =
    record {
      moved = (record { answer = refl; filled = refl }, record { answer = refl; filled = refl });
      order = (
        record { answer = refl; filled = refl },
        record { answer = refl; filled = refl },
        record { answer = refl; filled = refl },
        record { answer = refl; filled = refl },
        record { answer = refl; filled = refl },
        record { answer = refl; filled = refl },
      );
      no_other = λ r out holds. (holds.answer, holds.filled);
    }

pub lost-run-hold : LostRun
unfolding numbered answer_of filled_of pair_up header_of place_of walk_from count_of locate rle_of ranged_of kind_of
    standard_rule crate_rule fitness check_of fields_of time_of values_in chunk_of word_of range_of offset_of inside number_of
    values_of numbers_from pairs_from echoes_of passes offset_sequence ones_in tries_from crate_numbers_from crate_pairs_from
    words_shown numbers_shown pairs_shown entries_shown words_asked numbers_asked pairs_asked entries_asked fields_asked
    time_asked words_by numbers_by fields_by legal step_of listed_at taken_by after_steps listed_by steps_left advance_fault
    advance_of stretch_filled has clear_rule ahead_of
lost-run-hold =
    record {
      refusal = (
        record { answer = refl; filled = refl },
        record { answer = refl; filled = refl },
        record { answer = refl; filled = refl },
        record { answer = refl; filled = refl },
        record { answer = refl; filled = refl },
      );
      after-ten = (
        record { answer = refl; filled = refl },
        record { answer = refl; filled = refl },
        record { answer = refl; filled = refl },
      );
      others = record { answer = refl; filled = refl };
    }

pub by-number-hold : ByNumber
unfolding numbered answer_of filled_of pair_up header_of place_of walk_from count_of locate rle_of ranged_of kind_of
    standard_rule crate_rule fitness check_of fields_of time_of values_in chunk_of word_of range_of offset_of inside number_of
    values_of numbers_from pairs_from echoes_of passes offset_sequence ones_in tries_from crate_numbers_from crate_pairs_from
    words_shown numbers_shown pairs_shown entries_shown words_asked numbers_asked pairs_asked entries_asked fields_asked
    time_asked words_by numbers_by fields_by legal step_of listed_at taken_by after_steps listed_by steps_left advance_fault
    advance_of stretch_filled has clear_rule ahead_of
by-number-hold =
    record {
      served = (record { answer = refl; filled = refl }, record { answer = refl; filled = refl });
      other = (record { answer = refl; filled = refl }, record { answer = refl; filled = refl });
      not-served = (
        record { answer = refl; filled = refl },
        record { answer = refl; filled = refl },
        record { answer = refl; filled = refl },
      );
      order = (
        record { answer = refl; filled = refl },
        record { answer = refl; filled = refl },
        record { answer = refl; filled = refl },
        record { answer = refl; filled = refl },
        record { answer = refl; filled = refl },
      );
      no_other = λ r out holds. (holds.answer, holds.filled);
    }
