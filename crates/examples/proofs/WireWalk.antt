-- WireWalk, by computation.
use mathlib.Core.Path.{refl}
use Rattle.def_refusals.specs.Numbers.{numbered}
use Rattle.def_refusals.specs.Answers.{answer_of, filled_of}
use Rattle.def_wire.specs.Bytes.{pair_up}
use Rattle.def_wire.specs.Packet.{header_of, place_of, walk_from, count_of, locate}
use Rattle.def_wire.specs.Block.{rle_of, ranged_of, kind_of, standard_rule, crate_rule, fitness, check_of, fields_of, time_of}
use Rattle.examples.specs.WireWalk.{Walk, Located, Views}

pub walk-hold : Walk
unfolding numbered answer_of filled_of pair_up header_of place_of walk_from count_of locate rle_of ranged_of kind_of
    standard_rule crate_rule fitness check_of fields_of time_of
walk-hold =
    record {
      lengths = (refl, refl, refl, refl);
      places = (refl, refl, refl, refl);
      counts = (refl, refl, refl);
      forty = (refl, refl);
      six = (refl, refl, refl, refl);
      fits = (refl, refl);
      six-at-padding = (refl, refl);
      padding-walked = (refl, refl, refl, refl);
      header-first = (refl, refl, refl);
      walk_ends = (refl, refl, refl, refl, refl);
    }

pub located-hold : Located
unfolding numbered answer_of filled_of pair_up header_of place_of walk_from count_of locate rle_of ranged_of kind_of
    standard_rule crate_rule fitness check_of fields_of time_of
located-hold =
    record {
      standard = (refl, refl, refl);
      crate = (refl, refl, refl);
      nine = (refl, refl, refl, refl);
      own-count = (refl, refl, refl, refl, refl);
      six-everywhere = (refl, refl, refl, refl);
    }

pub views-hold : Views
unfolding numbered answer_of filled_of pair_up header_of place_of walk_from count_of locate rle_of ranged_of kind_of
    standard_rule crate_rule fitness check_of fields_of time_of
views-hold =
    record {
      bytes = (refl, refl);
      refusal = (refl, refl);
      part_bytes = (refl, refl);
      part-place = (refl, refl);
      next = (refl, refl, refl, refl, refl, refl);
      from-a-place = (refl, refl);
      cut-at-the-end = (refl, refl, refl, refl, refl);
      place-in-memory = (refl, refl, refl);
    }
