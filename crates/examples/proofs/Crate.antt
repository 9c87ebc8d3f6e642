-- Crate, by computation.
use mathlib.Core.Path.{refl}
use Rattle.def_refusals.specs.Numbers.{numbered}
use Rattle.def_refusals.specs.Answers.{answer_of, filled_of}
use Rattle.def_wire.specs.Bytes.{pair_up}
use Rattle.def_wire.specs.Packet.{header_of, place_of, walk_from, count_of, locate}
use Rattle.def_wire.specs.Block.{rle_of, ranged_of, kind_of, standard_rule, crate_rule, fitness, check_of, fields_of, time_of}
use Rattle.def_standard.specs.Chunks.{values_in, chunk_of, word_of}
use Rattle.def_standard.specs.Range.{ahead_of, range_of, offset_of, inside, number_of}
use Rattle.def_standard.specs.Standard.{values_of, numbers_from, pairs_from, echoes_of}
use Rattle.def_crate.specs.Sequence.{passes, offset_sequence}
use Rattle.def_crate.specs.Crate.{ones_in, tries_from, crate_numbers_from, crate_pairs_from}
use Rattle.examples.specs.Crate.{Sequence, CrateLists, OfWhatIsLeft}

pub sequence-hold : Sequence
unfolding numbered answer_of filled_of pair_up header_of place_of walk_from count_of locate rle_of ranged_of kind_of
    standard_rule crate_rule fitness check_of fields_of time_of values_in chunk_of word_of range_of offset_of inside number_of
    values_of numbers_from pairs_from echoes_of passes offset_sequence ones_in tries_from crate_numbers_from crate_pairs_from
    ahead_of
sequence-hold =
    record {
      doubled = (refl, refl, refl, refl);
      sequence = (refl, refl, refl, refl, refl);
      end-after-start = refl;
      end-before-start = refl;
      end-at-start = refl;
      offset = (refl, refl, refl, refl);
      moved = (refl, refl, refl, refl, refl);
    }

pub crate-lists-hold : CrateLists
unfolding numbered answer_of filled_of pair_up header_of place_of walk_from count_of locate rle_of ranged_of kind_of
    standard_rule crate_rule fitness check_of fields_of time_of values_in chunk_of word_of range_of offset_of inside number_of
    values_of numbers_from pairs_from echoes_of passes offset_sequence ones_in tries_from crate_numbers_from crate_pairs_from
    ahead_of
crate-lists-hold =
    record {
      up-to-a-failure = refl;
      position-made = refl;
      ones = (refl, refl, refl, refl);
      a-try = refl;
      tries = refl;
      thinned-tries = refl;
      moved-start = refl;
      first-failure = (refl, refl);
      zeros-untested = refl;
      repeated = refl;
      times = (refl, refl, refl, refl, refl);
    }

pub of-what-is-left-hold : OfWhatIsLeft
unfolding numbered answer_of filled_of pair_up header_of place_of walk_from count_of locate rle_of ranged_of kind_of
    standard_rule crate_rule fitness check_of fields_of time_of values_in chunk_of word_of range_of offset_of inside number_of
    values_of numbers_from pairs_from echoes_of passes offset_sequence ones_in tries_from crate_numbers_from crate_pairs_from
    ahead_of
of-what-is-left-hold =
    record {
      words = (refl, refl, refl);
      numbers = (refl, refl, refl);
      times = (refl, refl, refl, refl);
      off-the-grid = (refl, refl, refl, refl, refl);
    }
