-- Cursor, by computation.
use mathlib.Core.Path.{refl}
use Rattle.def_refusals.specs.Numbers.{numbered}
use Rattle.def_refusals.specs.Answers.{answer_of, filled_of}
use Rattle.def_wire.specs.Bytes.{pair_up}
use Rattle.def_wire.specs.Packet.{header_of, place_of, walk_from, count_of, locate}
use Rattle.def_wire.specs.Block.{rle_of, ranged_of, kind_of, standard_rule, crate_rule, fitness, check_of, fields_of, time_of}
use Rattle.def_standard.specs.Chunks.{values_in, chunk_of, word_of}
use Rattle.def_standard.specs.Range.{ahead_of, range_of, offset_of, inside, number_of}
use Rattle.def_standard.specs.Standard.{values_of, numbers_from, pairs_from, echoes_of}
use Rattle.def_crate.specs.Sequence.{passes, offset_sequence}
use Rattle.def_crate.specs.Crate.{ones_in, tries_from, crate_numbers_from, crate_pairs_from}
use Rattle.def_questions.specs.Questions.{words_shown, numbers_shown, pairs_shown, entries_shown}
use Rattle.def_questions.specs.Packets.{words_asked, numbers_asked, pairs_asked, entries_asked, fields_asked, time_asked}
use Rattle.def_questions.specs.ByNumber.{words_by, numbers_by, fields_by}
use Rattle.def_cursor.specs.Cursor.{legal, step_of, listed_at, taken_by, after_steps, listed_by, steps_left, advance_fault}
use Rattle.def_cursor.specs.Cursor.{advance_of, stretch_filled}
use Rattle.examples.specs.Cursor.{Places, OneStep, Steps, Faults}

pub places-hold : Places
unfolding numbered answer_of filled_of pair_up header_of place_of walk_from count_of locate rle_of ranged_of kind_of
    standard_rule crate_rule fitness check_of fields_of time_of values_in chunk_of word_of range_of offset_of inside number_of
    values_of numbers_from pairs_from echoes_of passes offset_sequence ones_in tries_from crate_numbers_from crate_pairs_from
    words_shown numbers_shown pairs_shown entries_shown words_asked numbers_asked pairs_asked entries_asked fields_asked
    time_asked words_by numbers_by fields_by legal step_of listed_at taken_by after_steps listed_by steps_left advance_fault
    advance_of stretch_filled ahead_of
places-hold =
    record {
      written = (refl, refl);
      steps-in = refl;
      at-hand = (refl, refl);
      legal-place = (refl, refl, refl, refl, refl);
      covering-none = (refl, refl, refl, refl);
      the_end = (refl, refl, refl, refl, refl);
      no_words = (refl, refl, refl);
      legal-position = (refl, refl, refl, refl);
    }

pub one-step-hold : OneStep
unfolding numbered answer_of filled_of pair_up header_of place_of walk_from count_of locate rle_of ranged_of kind_of
    standard_rule crate_rule fitness check_of fields_of time_of values_in chunk_of word_of range_of offset_of inside number_of
    values_of numbers_from pairs_from echoes_of passes offset_sequence ones_in tries_from crate_numbers_from crate_pairs_from
    words_shown numbers_shown pairs_shown entries_shown words_asked numbers_asked pairs_asked entries_asked fields_asked
    time_asked words_by numbers_by fields_by legal step_of listed_at taken_by after_steps listed_by steps_left advance_fault
    advance_of stretch_filled ahead_of
one-step-hold =
    record {
      next-position = refl;
      one_on = (refl, refl, refl, refl, refl);
      passed = (refl, refl);
      stopped = (refl, refl, refl);
      listed = (refl, refl, refl, refl, refl, refl);
      listed-none = (refl, refl);
      listed-stopped = refl;
      listed-round = (refl, refl);
    }

pub steps-hold : Steps
unfolding numbered answer_of filled_of pair_up header_of place_of walk_from count_of locate rle_of ranged_of kind_of
    standard_rule crate_rule fitness check_of fields_of time_of values_in chunk_of word_of range_of offset_of inside number_of
    values_of numbers_from pairs_from echoes_of passes offset_sequence ones_in tries_from crate_numbers_from crate_pairs_from
    words_shown numbers_shown pairs_shown entries_shown words_asked numbers_asked pairs_asked entries_asked fields_asked
    time_asked words_by numbers_by fields_by legal step_of listed_at taken_by after_steps listed_by steps_left advance_fault
    advance_of stretch_filled ahead_of
steps-hold =
    record {
      taken = refl;
      taken-from-here = (refl, refl, refl);
      taken-stopped = refl;
      same = (refl, refl);
      after = refl;
      after-stopped = refl;
      listed = (refl, refl, refl, refl, refl, refl, refl, refl);
      listed-from-here = (refl, refl);
      listed-off-the-grid = (refl, refl, refl, refl);
      left = (refl, refl, refl, refl, refl);
    }

pub faults-hold : Faults
unfolding numbered answer_of filled_of pair_up header_of place_of walk_from count_of locate rle_of ranged_of kind_of
    standard_rule crate_rule fitness check_of fields_of time_of values_in chunk_of word_of range_of offset_of inside number_of
    values_of numbers_from pairs_from echoes_of passes offset_sequence ones_in tries_from crate_numbers_from crate_pairs_from
    words_shown numbers_shown pairs_shown entries_shown words_asked numbers_asked pairs_asked entries_asked fields_asked
    time_asked words_by numbers_by fields_by legal step_of listed_at taken_by after_steps listed_by steps_left advance_fault
    advance_of stretch_filled ahead_of
faults-hold =
    record {
      sixteen = (refl, refl);
      eleven = (refl, refl, refl, refl);
      by-the-budget = refl;
      a-stretch = (refl, refl, refl, refl);
      answer = (refl, refl);
      left_behind = (refl, refl);
    }
