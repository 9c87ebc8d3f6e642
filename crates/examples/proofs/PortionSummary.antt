-- PortionSummary, by computation.
use mathlib.Core.Path.{refl}
use Rattle.def_wire.specs.Bytes.{pair_up}
use Rattle.def_wire.specs.Block.{rle_of, ranged_of, kind_of, standard_rule, has, clear_rule}
use Rattle.def_wire.specs.Summary.{summary_from, flags_of, sums_of}
use Rattle.def_portions.specs.Events.{head_fault, block_fault, kind_events, clear_words, kind_then, blocks_from, course_of}
use Rattle.def_portions.specs.Calls.{past_fault, call_of}
use Rattle.def_portions.specs.Lists.{tag_of, number_part, value_part, laid_by, put_sums}
use Rattle.examples.specs.PortionSummary.{OneBlock, OfAPacket, Held}

pub one-block-hold : OneBlock
unfolding pair_up rle_of ranged_of kind_of standard_rule has clear_rule summary_from flags_of sums_of head_fault block_fault
    kind_events clear_words kind_then blocks_from course_of past_fault call_of tag_of number_part value_part laid_by put_sums
one-block-hold =
    record {
      seven = (refl, refl, refl, refl);
      six-first = (refl, refl, refl);
      so_far = (refl, refl, refl, refl, refl);
      by_flags = (refl, refl, refl);
      no_words = (refl, refl);
    }

pub of-a-packet-hold : OfAPacket
unfolding pair_up rle_of ranged_of kind_of standard_rule has clear_rule summary_from flags_of sums_of head_fault block_fault
    kind_events clear_words kind_then blocks_from course_of past_fault call_of tag_of number_part value_part laid_by put_sums
of-a-packet-hold =
    record {
      so_far = (refl, refl, refl, refl, refl);
      two = refl;
      seven = (refl, refl, refl);
      calls = (refl, refl, refl, refl, refl);
    }

pub held-hold : Held
unfolding pair_up rle_of ranged_of kind_of standard_rule has clear_rule summary_from flags_of sums_of head_fault block_fault
    kind_events clear_words kind_then blocks_from course_of past_fault call_of tag_of number_part value_part laid_by put_sums
held-hold =
    record {
      numbers = (refl, refl, refl, refl);
      row = refl;
      parts = (refl, refl, refl);
      absent = (refl, refl, refl, refl, refl, refl, refl);
      three-each = (refl, refl);
      no_other = refl;
      lists = (refl, refl, refl);
      sums = (refl, refl, refl, refl);
      room = (refl, refl, refl, refl);
    }
