-- Packets in portions, by computation.
use mathlib.Core.Path.{refl}
use Rattle.def_wire.specs.Bytes.{pair_up}
use Rattle.def_wire.specs.Block.{rle_of, ranged_of, kind_of, standard_rule, has, clear_rule}
use Rattle.def_standard.specs.Chunks.{values_in}
use Rattle.def_standard.specs.Range.{ahead_of, range_of, offset_of, inside, number_of}
use Rattle.def_standard.specs.Standard.{values_of, numbers_from, pairs_from, echoes_of}
use Rattle.def_portions.specs.Events.{head_fault, block_fault, kind_events, clear_words, kind_then, blocks_from, course_of}
use Rattle.examples.specs.Portions.{HeadFaults, BlockFaults, BlockSoFar, SoFar, LostRuns, LostSoFar}

pub head-faults-hold : HeadFaults
unfolding pair_up rle_of ranged_of kind_of standard_rule values_in range_of offset_of inside number_of values_of numbers_from
    pairs_from echoes_of head_fault block_fault kind_events blocks_from course_of ahead_of
head-faults-hold =
    record {
      least = (refl, refl);
      version = (refl, refl, refl);
      packet-type = (refl, refl);
      padding = refl;
      order = (refl, refl, refl);
    }

pub block-faults-hold : BlockFaults
unfolding pair_up rle_of ranged_of kind_of standard_rule values_in range_of offset_of inside number_of values_of numbers_from
    pairs_from echoes_of head_fault block_fault kind_events blocks_from course_of ahead_of
block-faults-hold =
    record {
      too_long = (refl, refl, refl, refl);
      ranges = (refl, refl, refl, refl);
      clocks = (refl, refl, refl);
      echoes = (refl, refl, refl, refl);
      others = (refl, refl);
      six-first = (refl, refl);
    }

pub block-so-far-hold : BlockSoFar
unfolding pair_up rle_of ranged_of kind_of standard_rule values_in range_of offset_of inside number_of values_of numbers_from
    pairs_from echoes_of head_fault block_fault kind_events blocks_from course_of ahead_of
block-so-far-hold =
    record {
      of-loss = (refl, refl, refl, refl, refl, refl, refl);
      of-duplicates = (refl, refl);
      of-times = (refl, refl, refl, refl, refl);
      off-the-grid = (refl, refl, refl, refl, refl);
      of-clock = (refl, refl, refl);
      of-echoes = (refl, refl, refl, refl, refl);
      of_others = (refl, refl, refl);
    }

pub so-far-hold : SoFar
unfolding pair_up rle_of ranged_of kind_of standard_rule values_in range_of offset_of inside number_of values_of numbers_from
    pairs_from echoes_of head_fault block_fault kind_events blocks_from course_of has clear_rule clear_words kind_then ahead_of
so-far-hold =
    record {
      nothing = (refl, refl);
      judged = (refl, refl);
      header = (refl, refl, refl);
      empty = refl;
      blocks = (refl, refl, refl, refl, refl, refl, refl);
      last = (refl, refl, refl);
      smallest = refl;
      own = refl;
      off-the-grid = (refl, refl);
      no_fuel = refl;
      seven = (refl, refl, refl);
      six = (refl, refl);
    }

pub lost-runs-hold : LostRuns
unfolding pair_up rle_of ranged_of kind_of standard_rule values_in range_of offset_of inside number_of values_of numbers_from
    pairs_from echoes_of head_fault block_fault kind_events blocks_from course_of has clear_rule clear_words kind_then ahead_of
lost-runs-hold =
    record {
      words = refl;
      bytes-before = (refl, refl, refl, refl, refl);
      all-bytes = (refl, refl, refl, refl);
      fault = (refl, refl, refl, refl, refl);
      no-fault = (refl, refl, refl, refl);
      behind = (refl, refl, refl, refl);
    }

pub lost-so-far-hold : LostSoFar
unfolding pair_up rle_of ranged_of kind_of standard_rule values_in range_of offset_of inside number_of values_of numbers_from
    pairs_from echoes_of head_fault block_fault kind_events blocks_from course_of has clear_rule clear_words kind_then ahead_of
lost-so-far-hold =
    record {
      second-byte = (refl, refl, refl, refl, refl, refl, refl);
      past-the-range = (refl, refl);
      first_word = (refl, refl);
      by_length = refl;
      goes_on = (refl, refl, refl, refl, refl);
    }
