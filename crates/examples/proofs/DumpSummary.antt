-- DumpSummary, by computation.
use mathlib.Core.Path.{refl}
use Rattle.def_refusals.specs.Numbers.{numbered}
use Rattle.def_wire.specs.Bytes.{pair_up}
use Rattle.def_wire.specs.Packet.{header_of, place_of, walk_from, count_of, locate}
use Rattle.def_wire.specs.Block.{rle_of, ranged_of, kind_of, standard_rule, crate_rule, fitness, check_of, has, clear_rule}
use Rattle.def_wire.specs.Summary.{summary_from, summary_of}
use Rattle.def_text.specs.Numerals.{decimal_within}
use Rattle.def_dump.specs.Lines.{refused_line, block_line}
use Rattle.def_dump.specs.Summaries.{span_text, counts_text, jitter_text, hops_text, summary_parts}
use Rattle.def_dump.specs.Dump.{contents_of, block_text, blocks_text, reading_text, dump_text}
use Rattle.def_dump.specs.EventLines.{event_line}
use Rattle.examples.specs.DumpSummary.{Lines, Dumps}

pub lines-hold : Lines
unfolding numbered pair_up header_of place_of walk_from count_of locate rle_of ranged_of kind_of standard_rule crate_rule
    fitness check_of has clear_rule summary_from summary_of decimal_within refused_line block_line span_text counts_text
    jitter_text hops_text summary_parts contents_of block_text blocks_text reading_text dump_text event_line
lines-hold =
    record {
      span = (refl, refl);
      counts = (refl, refl, refl, refl, refl);
      of-jitter = (refl, refl, refl);
      of-hops = (refl, refl, refl, refl, refl);
      between = refl;
      four = (refl, refl);
      event = (refl, refl);
    }

pub dumps-hold : Dumps
unfolding numbered pair_up header_of place_of walk_from count_of locate rle_of ranged_of kind_of standard_rule crate_rule
    fitness check_of has clear_rule summary_from summary_of decimal_within refused_line block_line span_text counts_text
    jitter_text hops_text summary_parts contents_of block_text blocks_text reading_text dump_text event_line
dumps-hold =
    record {
      stated = (refl, refl);
      block = (refl, refl);
      unfit = (refl, refl, refl, refl);
      packets = refl;
    }
