-- WireBlock, by computation.
use mathlib.Core.Path.{refl}
use Rattle.def_refusals.specs.Numbers.{numbered}
use Rattle.def_refusals.specs.Answers.{answer_of, filled_of}
use Rattle.def_wire.specs.Bytes.{pair_up}
use Rattle.def_wire.specs.Packet.{header_of, place_of, walk_from, count_of, locate}
use Rattle.def_wire.specs.Block.{rle_of, ranged_of, kind_of, standard_rule, crate_rule, fitness, check_of, fields_of, time_of}
use Rattle.def_wire.specs.Block.{has, clear_rule}
use Rattle.examples.specs.WireBlock.{Kinds, Parts, LengthRules, LostRuns, Checks, Fields}

pub kinds-hold : Kinds
unfolding numbered answer_of filled_of pair_up header_of place_of walk_from count_of locate rle_of ranged_of kind_of
    standard_rule crate_rule fitness check_of fields_of time_of
kinds-hold =
    record {
      numbers = (refl, refl, refl, refl, refl, refl);
      rle = refl;
      ranged = refl;
      kinds = refl;
      to-the-standard = refl;
      to-the-crate = refl;
    }

pub parts-hold : Parts
unfolding numbered answer_of filled_of pair_up header_of place_of walk_from count_of locate rle_of ranged_of kind_of
    standard_rule crate_rule fitness check_of fields_of time_of
parts-hold =
    record {
      header = (refl, refl);
      type-and-specific = (refl, refl);
      length-field = (refl, refl);
      of_fields = refl;
      thinning = (refl, refl);
      of-time = refl;
    }

pub length-rules-hold : LengthRules
unfolding numbered answer_of filled_of pair_up header_of place_of walk_from count_of locate rle_of ranged_of kind_of
    standard_rule crate_rule fitness check_of fields_of time_of
length-rules-hold =
    record {
      holds = (refl, refl);
      next-fitting = refl;
      standard-spans = (refl, refl, refl, refl, refl);
      standard-clock = (refl, refl, refl);
      standard-echoes = (refl, refl, refl, refl, refl, refl, refl);
      standard-summary = (refl, refl, refl, refl);
      crate-chunks = (refl, refl, refl);
      crate-times = (refl, refl);
      crate-clock = (refl, refl, refl);
      crate-echoes = (refl, refl, refl, refl, refl, refl, refl);
      crate-summary = (refl, refl);
      of-a-view = (refl, refl, refl, refl);
    }

pub lost-runs-hold : LostRuns
unfolding numbered answer_of filled_of pair_up header_of place_of walk_from count_of locate rle_of ranged_of kind_of
    standard_rule crate_rule fitness check_of fields_of time_of has clear_rule
lost-runs-hold =
    record {
      the_word = refl;
      words = (refl, refl, refl, refl);
      among = (refl, refl, refl, refl, refl, refl, refl);
      of_words = (refl, refl, refl, refl);
      other-words = refl;
      of-kinds = (refl, refl, refl, refl, refl, refl);
      refusal = (refl, refl, refl, refl, refl);
      past-the-range = refl;
      not-a-word = (refl, refl, refl, refl, refl);
      by_length = (refl, refl);
      other-kinds = (refl, refl, refl);
      other-rules = (refl, refl, refl);
      by-the-crate = (refl, refl);
      checked = (refl, refl, refl, refl, refl);
      no_fields = (refl, refl, refl);
    }

pub checks-hold : Checks
unfolding numbered answer_of filled_of pair_up header_of place_of walk_from count_of locate rle_of ranged_of kind_of
    standard_rule crate_rule fitness check_of fields_of time_of has clear_rule
checks-hold =
    record {
      ten-first = (refl, refl, refl, refl, refl, refl);
      then-seven = (refl, refl);
      fit = (refl, refl, refl, refl);
      cut = (refl, refl, refl, refl, refl, refl);
    }

pub fields-hold : Fields
unfolding numbered answer_of filled_of pair_up header_of place_of walk_from count_of locate rle_of ranged_of kind_of
    standard_rule crate_rule fitness check_of fields_of time_of has clear_rule
fields-hold =
    record {
      of-loss = (refl, refl);
      order = (refl, refl, refl);
      eight-refused = (refl, refl, refl, refl);
      ten-before-eight = refl;
      from-what-follows = refl;
      time = (refl, refl, refl);
      time-order = (refl, refl, refl);
    }
