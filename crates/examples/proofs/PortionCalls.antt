-- Calls of packets in portions, by computation.
use mathlib.Core.Path.{refl}
use Rattle.def_wire.specs.Bytes.{pair_up}
use Rattle.def_wire.specs.Block.{rle_of, ranged_of, kind_of, standard_rule, has, clear_rule}
use Rattle.def_standard.specs.Chunks.{values_in}
use Rattle.def_standard.specs.Range.{ahead_of, range_of, offset_of, inside, number_of}
use Rattle.def_standard.specs.Standard.{values_of, numbers_from, pairs_from, echoes_of}
use Rattle.def_portions.specs.Events.{head_fault, block_fault, kind_events, clear_words, kind_then, blocks_from, course_of}
use Rattle.def_portions.specs.Calls.{past_fault, call_of}
use Rattle.def_portions.specs.Lists.{tag_of, number_part, value_part, laid_by}
use Rattle.examples.specs.PortionCalls.{Past, OneCall, Orders, Held}

pub past-hold : Past
unfolding pair_up rle_of ranged_of kind_of standard_rule values_in range_of offset_of inside number_of values_of numbers_from
    pairs_from echoes_of head_fault block_fault kind_events blocks_from course_of past_fault call_of tag_of number_part value_part
    laid_by ahead_of
past-hold =
    record {
      unknown = (refl, refl);
      over = (refl, refl, refl);
    }

pub one-call-hold : OneCall
unfolding pair_up rle_of ranged_of kind_of standard_rule values_in range_of offset_of inside number_of values_of numbers_from
    pairs_from echoes_of head_fault block_fault kind_events blocks_from course_of past_fault call_of tag_of number_part value_part
    laid_by has clear_rule clear_words kind_then ahead_of
one-call-hold =
    record {
      adds = (refl, refl, refl);
      off-the-grid = (refl, refl, refl);
      none = (refl, refl, refl);
      room = (refl, refl, refl);
      past = (refl, refl, refl);
      seven = refl;
      six = refl;
      lost-run = (refl, refl, refl, refl);
      head = (refl, refl, refl);
    }

pub orders-hold : Orders
unfolding pair_up rle_of ranged_of kind_of standard_rule values_in range_of offset_of inside number_of values_of numbers_from
    pairs_from echoes_of head_fault block_fault kind_events blocks_from course_of past_fault call_of tag_of number_part value_part
    laid_by has clear_rule clear_words kind_then ahead_of
orders-hold =
    record {
      stays = (refl, refl, refl, refl);
      lost-run-stays = (refl, refl, refl);
      head_first = (refl, refl);
      past_first = refl;
      past-before-seven = refl;
      room-before-seven = (refl, refl);
      before-a-lost-run = (refl, refl, refl, refl);
    }

pub held-hold : Held
unfolding pair_up rle_of ranged_of kind_of standard_rule values_in range_of offset_of inside number_of values_of numbers_from
    pairs_from echoes_of head_fault block_fault kind_events blocks_from course_of past_fault call_of tag_of number_part value_part
    laid_by ahead_of
held-hold =
    record {
      header = (refl, refl, refl);
      start = (refl, refl, refl, refl);
      ranged = (refl, refl, refl);
      number = (refl, refl, refl);
      of_pair = (refl, refl, refl);
      of_entry = (refl, refl, refl);
      of-time = (refl, refl, refl);
      end = (refl, refl, refl);
      lists = (refl, refl, refl);
    }
