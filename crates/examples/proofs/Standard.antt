-- Standard, by computation.
use mathlib.Core.Path.{refl}
use Rattle.def_refusals.specs.Numbers.{numbered}
use Rattle.def_refusals.specs.Answers.{answer_of, filled_of}
use Rattle.def_wire.specs.Bytes.{pair_up}
use Rattle.def_wire.specs.Packet.{header_of, place_of, walk_from, count_of, locate}
use Rattle.def_wire.specs.Block.{rle_of, ranged_of, kind_of, standard_rule, crate_rule, fitness, check_of, fields_of, time_of}
use Rattle.def_standard.specs.Chunks.{values_in, chunk_of, word_of}
use Rattle.def_standard.specs.Range.{ahead_of, range_of, offset_of, inside, number_of}
use Rattle.def_standard.specs.Standard.{values_of, numbers_from, pairs_from, echoes_of}
use Rattle.examples.specs.Standard.{ChunkWords, Ranges, Lists, OfABlock}

pub chunk-words-hold : ChunkWords
unfolding numbered answer_of filled_of pair_up header_of place_of walk_from count_of locate rle_of ranged_of kind_of
    standard_rule crate_rule fitness check_of fields_of time_of values_in chunk_of word_of range_of offset_of inside number_of
    values_of numbers_from pairs_from echoes_of ahead_of
chunk-words-hold =
    record {
      covers = refl;
      run_value = (refl, refl, refl, refl);
      vector-value = (refl, refl, refl);
      past-the-last = (refl, refl, refl);
      counting = (refl, refl);
      values = (refl, refl, refl, refl, refl);
      chunk = refl;
      made = refl;
      thirteen = (refl, refl, refl, refl);
      lost-run = refl;
      bytes = (refl, refl, refl, refl, refl);
      into-a-buffer = (
        record { answer = refl; filled = refl },
        record { answer = refl; filled = refl },
        record { answer = refl; filled = refl },
        record { answer = refl; filled = refl },
        record { answer = refl; filled = refl },
      );
    }

pub ranges-hold : Ranges
unfolding numbered answer_of filled_of pair_up header_of place_of walk_from count_of locate rle_of ranged_of kind_of
    standard_rule crate_rule fitness check_of fields_of time_of values_in chunk_of word_of range_of offset_of inside number_of
    values_of numbers_from pairs_from echoes_of ahead_of
ranges-hold =
    record {
      size = (refl, refl, refl, refl, refl, refl, refl);
      ahead = (refl, refl, refl);
      ahead-far = (refl, refl, refl);
      of_fields = (refl, refl, refl, refl, refl, refl, refl);
      end-first = refl;
      end-first-wrapped = refl;
      begin-is-end = (refl, refl, refl, refl);
      offset = (refl, refl, refl, refl);
      is-inside = (refl, refl, refl, refl, refl);
      number = (refl, refl, refl, refl);
      on-the-grid = (refl, refl, refl, refl, refl, refl);
      round = (refl, refl, refl, refl);
      all-numbers = refl;
    }

pub lists-hold : Lists
unfolding numbered answer_of filled_of pair_up header_of place_of walk_from count_of locate rle_of ranged_of kind_of
    standard_rule crate_rule fitness check_of fields_of time_of values_in chunk_of word_of range_of offset_of inside number_of
    values_of numbers_from pairs_from echoes_of ahead_of
lists-hold =
    record {
      by-positions = refl;
      position-made = refl;
      through-the-words = refl;
      is-listed = (refl, refl, refl);
      from-a-position = (refl, refl);
      from-the-start = refl;
      thinned = (refl, refl, refl);
      whole-circle = (refl, refl);
      a-receipt = refl;
      pairs = (refl, refl, refl, refl);
      echoes = (refl, refl, refl, refl, refl, refl);
    }

pub of-a-block-hold : OfABlock
unfolding numbered answer_of filled_of pair_up header_of place_of walk_from count_of locate rle_of ranged_of kind_of
    standard_rule crate_rule fitness check_of fields_of time_of values_in chunk_of word_of range_of offset_of inside number_of
    values_of numbers_from pairs_from echoes_of ahead_of
of-a-block-hold =
    record {
      chunk-words = (refl, refl);
      numbers = refl;
      none = refl;
      times = refl;
      off-the-grid = (refl, refl, refl, refl, refl, refl);
      times-off-the-grid = (refl, refl, refl, refl);
      entries = (refl, refl);
    }
