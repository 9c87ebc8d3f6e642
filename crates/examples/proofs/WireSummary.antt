-- WireSummary, by computation.
use mathlib.Core.Path.{refl}
use Rattle.def_wire.specs.Bytes.{pair_up}
use Rattle.def_wire.specs.Block.{rle_of, ranged_of, kind_of, standard_rule, crate_rule, fitness, check_of, has, clear_rule}
use Rattle.def_wire.specs.Summary.{summary_from, summary_of, flags_of, sums_of}
use Rattle.examples.specs.WireSummary.{Parts, Flags, OfAView, Again}

pub parts-hold : Parts
unfolding pair_up rle_of ranged_of kind_of standard_rule crate_rule fitness check_of has clear_rule summary_from summary_of
    flags_of sums_of
parts-hold =
    record {
      fours = (refl, refl);
      places = (refl, refl);
      largest = refl;
      flag-bits = (refl, refl, refl);
      toh = (refl, refl);
      there = (refl, refl, refl, refl);
      of-hops = refl;
    }

pub flags-hold : Flags
unfolding pair_up rle_of ranged_of kind_of standard_rule crate_rule fitness check_of has clear_rule summary_from summary_of
    flags_of sums_of
flags-hold =
    record {
      alone = refl;
      all_but_one = refl;
      reserved = refl;
      zeros = (refl, refl);
    }

pub of-a-view-hold : OfAView
unfolding pair_up rle_of ranged_of kind_of standard_rule crate_rule fitness check_of has clear_rule summary_from summary_of
    flags_of sums_of
of-a-view-hold =
    record {
      shows = (refl, refl, refl, refl, refl);
      ten = (refl, refl, refl);
      seven = (refl, refl, refl);
      by-what-is-given = (refl, refl);
      crate = (refl, refl, refl);
      checked = (refl, refl, refl, refl, refl, refl);
      asked-otherwise = (refl, refl, refl, refl);
      no_words = refl;
    }

pub again-hold : Again
unfolding pair_up rle_of ranged_of kind_of standard_rule crate_rule fitness check_of has clear_rule summary_from summary_of
    flags_of sums_of
again-hold =
    record {
      flags = refl;
      numbers = (refl, refl, refl, refl, refl, refl);
      back = (refl, refl, refl, refl);
    }
