-- Dump, by computation.
use mathlib.Core.Path.{refl}
use Rattle.def_refusals.specs.Numbers.{numbered}
use Rattle.def_wire.specs.Bytes.{pair_up}
use Rattle.def_wire.specs.Packet.{header_of, place_of, walk_from, count_of}
use Rattle.def_wire.specs.Block.{rle_of, ranged_of, kind_of, standard_rule, crate_rule, fitness, check_of, fields_of, time_of}
use Rattle.def_wire.specs.Block.{has, clear_rule}
use Rattle.def_standard.specs.Chunks.{values_in}
use Rattle.def_standard.specs.Range.{ahead_of, range_of, offset_of, inside, number_of}
use Rattle.def_standard.specs.Standard.{values_of, numbers_from, pairs_from, echoes_of}
use Rattle.def_crate.specs.Sequence.{passes}
use Rattle.def_crate.specs.Crate.{ones_in, tries_from, crate_numbers_from, crate_pairs_from}
use Rattle.def_questions.specs.Questions.{numbers_shown, pairs_shown, entries_shown}
use Rattle.def_text.specs.Numerals.{decimal_within, hexes_of, spaced_all}
use Rattle.def_dump.specs.Lines.{refused_line, refusal_line, block_line, fields_line, time_line, list_line}
use Rattle.def_dump.specs.Lines.{pair_numbers, entry_numbers, taken_line, word_line, blocks_line, view_line, packet_line}
use Rattle.def_dump.specs.Dump.{list_or, contents_of, block_text, blocks_text, reading_text, dump_text}
use Rattle.examples.specs.Dump.{Lines, Sample, Blocks, Dumps}

pub lines-hold : Lines
unfolding numbered decimal_within hexes_of spaced_all refused_line refusal_line block_line fields_line time_line list_line
    pair_numbers entry_numbers taken_line word_line blocks_line view_line packet_line
lines-hold =
    record {
      refusals = (refl, refl, refl);
      block = refl;
      of_fields = refl;
      time = refl;
      lists = (refl, refl, refl);
      pairs = (refl, refl);
      entries = (refl, refl);
      stretch = refl;
      word = refl;
      parsed = refl;
      view = refl;
      written = refl;
    }

pub sample-holds : Sample
unfolding numbered pair_up header_of place_of walk_from count_of rle_of ranged_of kind_of standard_rule crate_rule fitness check_of
    fields_of time_of values_in range_of offset_of inside number_of values_of numbers_from passes ones_in tries_from
    crate_numbers_from numbers_shown decimal_within spaced_all refused_line block_line fields_line list_line list_or contents_of
    block_text blocks_text reading_text dump_text has clear_rule ahead_of
sample-holds = record { sample = refl }

pub blocks-hold : Blocks
unfolding numbered pair_up header_of place_of walk_from count_of rle_of ranged_of kind_of standard_rule crate_rule fitness check_of
    fields_of time_of values_in range_of offset_of inside number_of values_of numbers_from pairs_from echoes_of passes ones_in
    tries_from crate_numbers_from crate_pairs_from numbers_shown pairs_shown entries_shown decimal_within spaced_all refused_line
    block_line fields_line time_line list_line pair_numbers entry_numbers list_or contents_of block_text has clear_rule ahead_of
blocks-hold =
    record {
      duplicates = refl;
      no-numbers = refl;
      times = refl;
      times-by-the-crate = refl;
      clock = refl;
      echoes = refl;
      others = (refl, refl);
      unfit = (refl, refl, refl, refl);
      lost-run = (refl, refl, refl);
      no-time = refl;
      cut = refl;
    }

pub dumps-hold : Dumps
unfolding numbered pair_up header_of place_of walk_from count_of rle_of ranged_of kind_of standard_rule crate_rule fitness check_of
    fields_of time_of values_in range_of offset_of inside number_of values_of numbers_from pairs_from echoes_of passes ones_in
    tries_from crate_numbers_from crate_pairs_from numbers_shown pairs_shown entries_shown decimal_within spaced_all refused_line
    block_line fields_line time_line list_line pair_numbers entry_numbers list_or contents_of block_text blocks_text reading_text
    dump_text has clear_rule ahead_of
dumps-hold =
    record {
      of-two-blocks = refl;
      of-two-blocks-by-the-crate = refl;
      of-a-lost-run = refl;
      off-the-grid = refl;
      none-on-the-grid = refl;
      from-the-second = refl;
      of-no-blocks = refl;
      refused-by-the-standard = refl;
      most-shown = (refl, refl, refl);
      longest = (refl, refl);
      of-nothing = refl;
    }
