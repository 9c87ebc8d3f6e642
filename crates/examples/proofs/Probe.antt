-- Probe, by computation.
use mathlib.Core.Path.{refl}
use Rattle.def_refusals.specs.Numbers.{numbered}
use Rattle.def_refusals.specs.Answers.{answer_of, filled_of}
use Rattle.def_wire.specs.Bytes.{pair_up}
use Rattle.def_wire.specs.Packet.{header_of, place_of, walk_from, count_of, locate}
use Rattle.def_wire.specs.Block.{rle_of, ranged_of, kind_of, standard_rule, crate_rule, fitness, check_of, fields_of, time_of}
use Rattle.def_wire.specs.Block.{has, clear_rule}
use Rattle.def_standard.specs.Chunks.{values_in, chunk_of, word_of}
use Rattle.def_standard.specs.Range.{ahead_of, range_of, offset_of, inside, number_of}
use Rattle.def_standard.specs.Standard.{values_of, numbers_from, pairs_from, echoes_of}
use Rattle.def_crate.specs.Sequence.{passes, offset_sequence}
use Rattle.def_crate.specs.Crate.{ones_in, tries_from, crate_numbers_from, crate_pairs_from}
use Rattle.def_questions.specs.Questions.{words_shown, numbers_shown, pairs_shown, entries_shown}
use Rattle.def_questions.specs.Packets.{words_asked, numbers_asked, pairs_asked, entries_asked, fields_asked, time_asked}
use Rattle.def_questions.specs.ByNumber.{words_by, numbers_by, fields_by}
use Rattle.def_cursor.specs.Cursor.{legal, step_of, listed_at, taken_by, after_steps, listed_by, steps_left, advance_fault}
use Rattle.def_cursor.specs.Cursor.{advance_of, stretch_filled}
use Rattle.def_jobs.specs.Shown.{record_of, numbers_row}
use Rattle.def_jobs.specs.Jobs.{pair_low, jobs_from, is_header_job, is_block_job, jobs_fault, asked_of}
use Rattle.def_jobs.specs.Layout.{zeros_behind, block_bytes, blocks_bytes, layout_of}
use Rattle.def_jobs.specs.Writing.{misleading_from, write_fault, packet_of}
use Rattle.def_marks.specs.Marks.{run_of, bits_of, word_for, taken_by as marks_taken_by, words_from, bad_from}
use Rattle.def_marks.specs.Marks.{marks_fault, marks_asked}
use Rattle.def_text.specs.Numerals.{decimal_within, hexes_of, spaced_all}
use Rattle.def_dump.specs.Lines.{refused_line, refusal_line, fields_line, time_line, list_line, pair_numbers, entry_numbers}
use Rattle.def_dump.specs.Lines.{taken_line, word_line, blocks_line, view_line, packet_line}
use Rattle.def_dump.specs.Dump.{reading_text, dump_text}
use Rattle.def_probe.specs.Requests.{line_in, numbers_text, words_text, pairs_text, entries_text, typed_reply, list_reply}
use Rattle.def_probe.specs.Requests.{words_reply, numbers_reply, shown_text, shown_reply, stretch_on, stretch_in}
use Rattle.def_probe.specs.Requests.{stretch_text}
use Rattle.def_probe.specs.Requests.{stretch_reply, written_text, written_reply, chunk_asked, made_text, made_reply}
use Rattle.def_probe.specs.Requests.{parsed_text}
use Rattle.def_probe.specs.Requests.{parsed_reply, marks_text, marks_reply, view_text, view_reply, answer_to}
use Rattle.examples.specs.Probe.{Parts, OfDump, OfLists, OfBlocks, OfStretches, OfWriting, NotServed}

pub parts-hold : Parts
unfolding numbered answer_of filled_of pair_up header_of place_of walk_from count_of locate rle_of ranged_of kind_of
    standard_rule crate_rule fitness check_of fields_of time_of values_in chunk_of word_of range_of offset_of inside number_of
    values_of numbers_from pairs_from echoes_of passes offset_sequence ones_in tries_from crate_numbers_from crate_pairs_from
    words_shown numbers_shown pairs_shown entries_shown words_asked numbers_asked pairs_asked entries_asked fields_asked
    time_asked words_by numbers_by fields_by legal step_of listed_at taken_by after_steps listed_by steps_left advance_fault
    advance_of stretch_filled record_of numbers_row pair_low jobs_from is_header_job is_block_job jobs_fault asked_of zeros_behind
    block_bytes blocks_bytes layout_of misleading_from write_fault packet_of run_of bits_of word_for marks_taken_by words_from
    bad_from marks_fault marks_asked decimal_within hexes_of spaced_all refused_line refusal_line fields_line time_line list_line
    pair_numbers entry_numbers taken_line word_line blocks_line view_line packet_line reading_text dump_text line_in numbers_text
    words_text pairs_text entries_text typed_reply list_reply words_reply numbers_reply shown_text shown_reply stretch_on
    stretch_in stretch_text stretch_reply written_text written_reply chunk_asked made_text made_reply parsed_text parsed_reply
    marks_text marks_reply view_text view_reply answer_to ahead_of
parts-hold =
    record {
      of-a-reply = (refl, refl, refl, refl);
      rooms = (refl, refl, refl);
      readings = (refl, refl, refl);
      in-room = (refl, refl, refl);
      rooms-of-lists = (refl, refl, refl, refl);
      chunks = (refl, refl, refl, refl);
    }

pub of-dump-hold : OfDump
unfolding numbered answer_of filled_of pair_up header_of place_of walk_from count_of locate rle_of ranged_of kind_of
    standard_rule crate_rule fitness check_of fields_of time_of values_in chunk_of word_of range_of offset_of inside number_of
    values_of numbers_from pairs_from echoes_of passes offset_sequence ones_in tries_from crate_numbers_from crate_pairs_from
    words_shown numbers_shown pairs_shown entries_shown words_asked numbers_asked pairs_asked entries_asked fields_asked
    time_asked words_by numbers_by fields_by legal step_of listed_at taken_by after_steps listed_by steps_left advance_fault
    advance_of stretch_filled record_of numbers_row pair_low jobs_from is_header_job is_block_job jobs_fault asked_of zeros_behind
    block_bytes blocks_bytes layout_of misleading_from write_fault packet_of run_of bits_of word_for marks_taken_by words_from
    bad_from marks_fault marks_asked decimal_within hexes_of spaced_all refused_line refusal_line fields_line time_line list_line
    pair_numbers entry_numbers taken_line word_line blocks_line view_line packet_line reading_text dump_text line_in numbers_text
    words_text pairs_text entries_text typed_reply list_reply words_reply numbers_reply shown_text shown_reply stretch_on
    stretch_in stretch_text stretch_reply written_text written_reply chunk_asked made_text made_reply parsed_text parsed_reply
    marks_text marks_reply view_text view_reply answer_to ahead_of
of-dump-hold =
    record {
      a-dump = refl;
    }

pub of-lists-hold : OfLists
unfolding numbered answer_of filled_of pair_up header_of place_of walk_from count_of locate rle_of ranged_of kind_of
    standard_rule crate_rule fitness check_of fields_of time_of values_in chunk_of word_of range_of offset_of inside number_of
    values_of numbers_from pairs_from echoes_of passes offset_sequence ones_in tries_from crate_numbers_from crate_pairs_from
    words_shown numbers_shown pairs_shown entries_shown words_asked numbers_asked pairs_asked entries_asked fields_asked
    time_asked words_by numbers_by fields_by legal step_of listed_at taken_by after_steps listed_by steps_left advance_fault
    advance_of stretch_filled record_of numbers_row pair_low jobs_from is_header_job is_block_job jobs_fault asked_of zeros_behind
    block_bytes blocks_bytes layout_of misleading_from write_fault packet_of run_of bits_of word_for marks_taken_by words_from
    bad_from marks_fault marks_asked decimal_within hexes_of spaced_all refused_line refusal_line fields_line time_line list_line
    pair_numbers entry_numbers taken_line word_line blocks_line view_line packet_line reading_text dump_text line_in numbers_text
    words_text pairs_text entries_text typed_reply list_reply words_reply numbers_reply shown_text shown_reply stretch_on
    stretch_in stretch_text stretch_reply written_text written_reply chunk_asked made_text made_reply parsed_text parsed_reply
    marks_text marks_reply view_text view_reply answer_to has clear_rule ahead_of
of-lists-hold =
    record {
      numbers = (refl, refl, refl, refl);
      numbers-refused = (refl, refl, refl, refl);
      pairs = (refl, refl, refl, refl);
      pairs-by-reading = (refl, refl);
      entries = (refl, refl, refl, refl, refl, refl);
      types-not-served = (refl, refl, refl, refl, refl, refl);
      words = (refl, refl, refl, refl);
      lost-run = (refl, refl, refl, refl, refl, refl, refl);
      off-the-grid = (refl, refl, refl, refl, refl, refl);
      of-any-type = (refl, refl);
      cut-lists = (refl, refl, refl);
      cut-words = (refl, refl, refl);
      cut-numbers = (refl, refl, refl);
    }

pub of-blocks-hold : OfBlocks
unfolding numbered answer_of filled_of pair_up header_of place_of walk_from count_of locate rle_of ranged_of kind_of
    standard_rule crate_rule fitness check_of fields_of time_of values_in chunk_of word_of range_of offset_of inside number_of
    values_of numbers_from pairs_from echoes_of passes offset_sequence ones_in tries_from crate_numbers_from crate_pairs_from
    words_shown numbers_shown pairs_shown entries_shown words_asked numbers_asked pairs_asked entries_asked fields_asked
    time_asked words_by numbers_by fields_by legal step_of listed_at taken_by after_steps listed_by steps_left advance_fault
    advance_of stretch_filled record_of numbers_row pair_low jobs_from is_header_job is_block_job jobs_fault asked_of zeros_behind
    block_bytes blocks_bytes layout_of misleading_from write_fault packet_of run_of bits_of word_for marks_taken_by words_from
    bad_from marks_fault marks_asked decimal_within hexes_of spaced_all refused_line refusal_line fields_line time_line list_line
    pair_numbers entry_numbers taken_line word_line blocks_line view_line packet_line reading_text dump_text line_in numbers_text
    words_text pairs_text entries_text typed_reply list_reply words_reply numbers_reply shown_text shown_reply stretch_on
    stretch_in stretch_text stretch_reply written_text written_reply chunk_asked made_text made_reply parsed_text parsed_reply
    marks_text marks_reply view_text view_reply answer_to has clear_rule ahead_of
of-blocks-hold =
    record {
      fields = (refl, refl, refl, refl, refl);
      fields-of-a-lost-run = (refl, refl, refl, refl, refl);
      time = (refl, refl, refl, refl, refl, refl);
      parsed = (refl, refl, refl);
      view = (refl, refl, refl, refl);
      cut-shown = (refl, refl, refl);
      cut-parsed = (refl, refl, refl);
      cut-view = (refl, refl, refl);
    }

pub of-stretches-hold : OfStretches
unfolding numbered answer_of filled_of pair_up header_of place_of walk_from count_of locate rle_of ranged_of kind_of
    standard_rule crate_rule fitness check_of fields_of time_of values_in chunk_of word_of range_of offset_of inside number_of
    values_of numbers_from pairs_from echoes_of passes offset_sequence ones_in tries_from crate_numbers_from crate_pairs_from
    words_shown numbers_shown pairs_shown entries_shown words_asked numbers_asked pairs_asked entries_asked fields_asked
    time_asked words_by numbers_by fields_by legal step_of listed_at taken_by after_steps listed_by steps_left advance_fault
    advance_of stretch_filled record_of numbers_row pair_low jobs_from is_header_job is_block_job jobs_fault asked_of zeros_behind
    block_bytes blocks_bytes layout_of misleading_from write_fault packet_of run_of bits_of word_for marks_taken_by words_from
    bad_from marks_fault marks_asked decimal_within hexes_of spaced_all refused_line refusal_line fields_line time_line list_line
    pair_numbers entry_numbers taken_line word_line blocks_line view_line packet_line reading_text dump_text line_in numbers_text
    words_text pairs_text entries_text typed_reply list_reply words_reply numbers_reply shown_text shown_reply stretch_on
    stretch_in stretch_text stretch_reply written_text written_reply chunk_asked made_text made_reply parsed_text parsed_reply
    marks_text marks_reply view_text view_reply answer_to has clear_rule ahead_of
of-stretches-hold =
    record {
      a-stretch = (refl, refl);
      steps-and-numbers = refl;
      off-the-grid = (refl, refl, refl);
      refused-stretches = (refl, refl, refl, refl, refl);
      lost-run = (refl, refl, refl);
      cut-stretch = (refl, refl);
    }

pub of-writing-hold : OfWriting
unfolding numbered answer_of filled_of pair_up header_of place_of walk_from count_of locate rle_of ranged_of kind_of
    standard_rule crate_rule fitness check_of fields_of time_of values_in chunk_of word_of range_of offset_of inside number_of
    values_of numbers_from pairs_from echoes_of passes offset_sequence ones_in tries_from crate_numbers_from crate_pairs_from
    words_shown numbers_shown pairs_shown entries_shown words_asked numbers_asked pairs_asked entries_asked fields_asked
    time_asked words_by numbers_by fields_by legal step_of listed_at taken_by after_steps listed_by steps_left advance_fault
    advance_of stretch_filled record_of numbers_row pair_low jobs_from is_header_job is_block_job jobs_fault asked_of zeros_behind
    block_bytes blocks_bytes layout_of misleading_from write_fault packet_of run_of bits_of word_for marks_taken_by words_from
    bad_from marks_fault marks_asked decimal_within hexes_of spaced_all refused_line refusal_line fields_line time_line list_line
    pair_numbers entry_numbers taken_line word_line blocks_line view_line packet_line reading_text dump_text line_in numbers_text
    words_text pairs_text entries_text typed_reply list_reply words_reply numbers_reply shown_text shown_reply stretch_on
    stretch_in stretch_text stretch_reply written_text written_reply chunk_asked made_text made_reply parsed_text parsed_reply
    marks_text marks_reply view_text view_reply answer_to has clear_rule ahead_of
of-writing-hold =
    record {
      plain = (refl, refl);
      careful = (refl, refl);
      off-the-grid = (refl, refl, refl);
      lost-run = (refl, refl, refl);
      a_word = (refl, refl, refl, refl);
      no_word = (refl, refl, refl, refl);
      near-a-lost-run = (refl, refl, refl);
      marks = (refl, refl, refl);
      cut-writing = (refl, refl, refl, refl);
      cut_word = (refl, refl, refl);
      cut-marks = (refl, refl);
    }

pub not-served-hold : NotServed
unfolding numbered answer_of filled_of pair_up header_of place_of walk_from count_of locate rle_of ranged_of kind_of
    standard_rule crate_rule fitness check_of fields_of time_of values_in chunk_of word_of range_of offset_of inside number_of
    values_of numbers_from pairs_from echoes_of passes offset_sequence ones_in tries_from crate_numbers_from crate_pairs_from
    words_shown numbers_shown pairs_shown entries_shown words_asked numbers_asked pairs_asked entries_asked fields_asked
    time_asked words_by numbers_by fields_by legal step_of listed_at taken_by after_steps listed_by steps_left advance_fault
    advance_of stretch_filled record_of numbers_row pair_low jobs_from is_header_job is_block_job jobs_fault asked_of zeros_behind
    block_bytes blocks_bytes layout_of misleading_from write_fault packet_of run_of bits_of word_for marks_taken_by words_from
    bad_from marks_fault marks_asked decimal_within hexes_of spaced_all refused_line refusal_line fields_line time_line list_line
    pair_numbers entry_numbers taken_line word_line blocks_line view_line packet_line reading_text dump_text line_in numbers_text
    words_text pairs_text entries_text typed_reply list_reply words_reply numbers_reply shown_text shown_reply stretch_on
    stretch_in stretch_text stretch_reply written_text written_reply chunk_asked made_text made_reply parsed_text parsed_reply
    marks_text marks_reply view_text view_reply answer_to ahead_of
not-served-hold =
    record {
      others = (refl, refl, refl);
    }
