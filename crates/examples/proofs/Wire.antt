-- Wire, by computation.
use mathlib.Core.Path.{refl}
use Rattle.def_refusals.specs.Numbers.{numbered}
use Rattle.def_refusals.specs.Answers.{answer_of, filled_of}
use Rattle.def_wire.specs.Bytes.{pair_up}
use Rattle.def_wire.specs.Packet.{header_of, place_of, walk_from, count_of, locate}
use Rattle.def_wire.specs.Block.{rle_of, ranged_of, kind_of, standard_rule, crate_rule, fitness, check_of, fields_of, time_of}
use Rattle.examples.specs.Wire.{Bytes, HeaderParts, Header}

pub bytes-hold : Bytes
unfolding numbered answer_of filled_of pair_up header_of place_of walk_from count_of locate rle_of ranged_of kind_of
    standard_rule crate_rule fitness check_of fields_of time_of
bytes-hold =
    record {
      byte = (refl, refl, refl);
      of_two = (refl, refl, refl);
      of_four = (refl, refl, refl);
      of-eight = (refl, refl);
      pairs = (refl, refl, refl);
      of-words16 = refl;
      of-words32 = (refl, refl);
      two_bytes = (refl, refl, refl);
      four_bytes = refl;
      all-eight = refl;
    }

pub header-parts-hold : HeaderParts
unfolding numbered answer_of filled_of pair_up header_of place_of walk_from count_of locate rle_of ranged_of kind_of
    standard_rule crate_rule fitness check_of fields_of time_of
header-parts-hold =
    record {
      version = (refl, refl, refl, refl);
      bit-p = (refl, refl, refl, refl);
      announced = (refl, refl, refl);
      sender = refl;
      last_byte = (refl, refl);
      bad-count = (refl, refl, refl, refl, refl);
      at_most = (refl, refl, refl, refl, refl, refl);
    }

pub header-hold : Header
unfolding numbered answer_of filled_of pair_up header_of place_of walk_from count_of locate rle_of ranged_of kind_of
    standard_rule crate_rule fitness check_of fields_of time_of
header-hold =
    record {
      too_short = (refl, refl, refl, refl);
      the-least = (refl, refl, refl);
      eight-to-eleven = (refl, refl, refl, refl, refl);
      one-first = refl;
      wrong-version = (refl, refl, refl);
      two-first = (refl, refl);
      wrong_type = (refl, refl, refl);
      three-first = (refl, refl);
      wrong-length = (refl, refl, refl);
      four-first = (refl, refl);
      bad-padding = (refl, refl, refl, refl, refl, refl, refl, refl);
      stop = (refl, refl, refl, refl);
      not-padded = (refl, refl, refl);
      unused-bits = (refl, refl);
    }
