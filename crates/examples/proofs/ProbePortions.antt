-- Packets in portions through xrprobe, by computation.
use mathlib.Core.Path.{refl}
use Rattle.def_refusals.specs.Numbers.{numbered}
use Rattle.def_wire.specs.Bytes.{pair_up}
use Rattle.def_wire.specs.Block.{rle_of, ranged_of, kind_of, standard_rule, has, clear_rule}
use Rattle.def_standard.specs.Chunks.{values_in}
use Rattle.def_standard.specs.Range.{ahead_of, range_of, offset_of, inside, number_of}
use Rattle.def_standard.specs.Standard.{values_of, numbers_from, pairs_from, echoes_of}
use Rattle.def_portions.specs.Events.{head_fault, block_fault, kind_events, clear_words, kind_then, blocks_from, course_of}
use Rattle.def_portions.specs.Calls.{past_fault, call_of}
use Rattle.def_text.specs.Numerals.{decimal_within}
use Rattle.def_dump.specs.Lines.{refusal_line, fields_line}
use Rattle.def_dump.specs.EventLines.{event_line, event_lines, given_line}
use Rattle.def_probe.specs.Requests.{sizes_at, calls_text, portions_text, portions_reply, answer_to}
use Rattle.examples.specs.ProbePortions.{OfPortions}

pub of-portions-hold : OfPortions
unfolding numbered pair_up rle_of ranged_of kind_of standard_rule values_in range_of offset_of inside number_of values_of
    numbers_from pairs_from echoes_of head_fault block_fault kind_events blocks_from course_of past_fault call_of decimal_within
    refusal_line fields_line event_line event_lines given_line sizes_at calls_text portions_text portions_reply answer_to has
    clear_rule clear_words kind_then ahead_of
of-portions-hold =
    record {
      whole = (refl, refl);
      none = refl;
      sizes = (refl, refl, refl);
      over = (refl, refl);
      again = (refl, refl);
      stays = (refl, refl);
      lost-run = (refl, refl, refl, refl);
      off-the-grid = refl;
      room = refl;
      not-whole = (refl, refl, refl);
      line = refl;
    }
