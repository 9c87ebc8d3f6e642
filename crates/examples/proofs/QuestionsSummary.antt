-- QuestionsSummary, by computation.
use mathlib.Core.Path.{refl}
use Rattle.def_wire.specs.Bytes.{pair_up}
use Rattle.def_wire.specs.Packet.{header_of, place_of, walk_from, count_of, locate}
use Rattle.def_wire.specs.Block.{rle_of, ranged_of, kind_of, standard_rule, crate_rule, fitness, check_of, has, clear_rule}
use Rattle.def_wire.specs.Summary.{summary_from, summary_of}
use Rattle.def_questions.specs.Packets.{summary_asked}
use Rattle.examples.specs.QuestionsSummary.{Asked}

pub asked-hold : Asked
unfolding pair_up header_of place_of walk_from count_of locate rle_of ranged_of kind_of standard_rule crate_rule fitness check_of
    has clear_rule summary_from summary_of summary_asked
asked-hold =
    record {
      shows = (refl, refl, refl);
      one-to-six = (refl, refl, refl, refl, refl, refl);
      nine-ten-seven = (refl, refl, refl, refl);
      crate = (refl, refl, refl, refl, refl);
    }
