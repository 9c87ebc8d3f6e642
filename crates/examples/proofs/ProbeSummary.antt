-- ProbeSummary, by computation.
use mathlib.Core.Path.{refl}
use Rattle.def_refusals.specs.Numbers.{numbered}
use Rattle.def_wire.specs.Bytes.{pair_up}
use Rattle.def_wire.specs.Packet.{header_of, place_of, walk_from, count_of, locate}
use Rattle.def_wire.specs.Block.{rle_of, ranged_of, kind_of, standard_rule, crate_rule, fitness, check_of, fields_of}
use Rattle.def_wire.specs.Block.{has, clear_rule}
use Rattle.def_wire.specs.Summary.{summary_from, summary_of}
use Rattle.def_questions.specs.Packets.{fields_asked, summary_asked}
use Rattle.def_questions.specs.ByNumber.{numbers_by, fields_by}
use Rattle.def_jobs.specs.Jobs.{pair_low, jobs_from, is_header_job, is_block_job, jobs_fault}
use Rattle.def_jobs.specs.Layout.{block_bytes, blocks_bytes, layout_of}
use Rattle.def_jobs.specs.Writing.{misleading_from, write_fault, packet_of}
use Rattle.def_portions.specs.Events.{head_fault, block_fault, kind_events, clear_words, kind_then, blocks_from, course_of}
use Rattle.def_portions.specs.Calls.{past_fault, call_of}
use Rattle.def_text.specs.Numerals.{decimal_within, hexes_of}
use Rattle.def_dump.specs.Lines.{refusal_line, packet_line}
use Rattle.def_dump.specs.Summaries.{span_text, counts_text, jitter_text, hops_text, summary_parts}
use Rattle.def_dump.specs.EventLines.{event_line, event_lines, given_line}
use Rattle.def_probe.specs.Requests.{line_in, numbers_text, numbers_reply, shown_text, shown_reply, written_text}
use Rattle.def_probe.specs.Requests.{written_reply, sizes_at, calls_text, portions_text, portions_reply, summary_text}
use Rattle.def_probe.specs.Requests.{summary_reply, answer_to}
use Rattle.examples.specs.ProbeSummary.{OfRequests}

pub of-requests-hold : OfRequests
unfolding numbered pair_up header_of place_of walk_from count_of locate rle_of ranged_of kind_of standard_rule crate_rule
    fitness check_of fields_of has clear_rule summary_from summary_of fields_asked summary_asked numbers_by fields_by pair_low
    jobs_from is_header_job is_block_job jobs_fault block_bytes blocks_bytes layout_of misleading_from write_fault packet_of
    head_fault block_fault kind_events clear_words kind_then blocks_from course_of past_fault call_of decimal_within hexes_of
    refusal_line packet_line span_text counts_text jitter_text hops_text summary_parts event_line event_lines given_line line_in
    numbers_text numbers_reply shown_text shown_reply written_text written_reply sizes_at calls_text portions_text
    portions_reply summary_text summary_reply answer_to
of-requests-hold =
    record {
      summaries = (refl, refl);
      refusals = (refl, refl, refl, refl, refl);
      bounds = (refl, refl, refl);
      otherwise = (refl, refl, refl);
      written = refl;
      in-portions = (refl, refl);
    }
