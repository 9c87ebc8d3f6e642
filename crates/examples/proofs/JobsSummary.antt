-- JobsSummary, by computation.
use mathlib.Core.Path.{refl}
use Rattle.def_refusals.specs.Numbers.{numbered}
use Rattle.def_wire.specs.Bytes.{pair_up}
use Rattle.def_wire.specs.Packet.{header_of, place_of, walk_from, count_of, locate}
use Rattle.def_wire.specs.Block.{rle_of, ranged_of, kind_of, standard_rule, crate_rule, fitness, check_of, fields_of, time_of}
use Rattle.def_wire.specs.Block.{has, clear_rule}
use Rattle.def_wire.specs.Summary.{summary_from, summary_of}
use Rattle.def_standard.specs.Chunks.{values_in}
use Rattle.def_standard.specs.Range.{ahead_of, range_of, offset_of, inside, number_of}
use Rattle.def_standard.specs.Standard.{values_of, numbers_from, pairs_from, echoes_of}
use Rattle.def_crate.specs.Sequence.{passes}
use Rattle.def_crate.specs.Crate.{ones_in, tries_from, crate_numbers_from, crate_pairs_from}
use Rattle.def_questions.specs.Questions.{numbers_shown, pairs_shown, entries_shown}
use Rattle.def_jobs.specs.Shown.{record_of, numbers_row}
use Rattle.def_jobs.specs.Jobs.{pair_low, jobs_from, is_header_job, is_block_job, jobs_fault, asked_of}
use Rattle.def_jobs.specs.Layout.{zeros_behind, block_bytes, blocks_bytes, layout_of}
use Rattle.def_jobs.specs.Writing.{misleading_from, write_fault, packet_of}
use Rattle.examples.specs.JobsSummary.{Records, Written, Shown, Misled}

pub records-hold : Records
unfolding numbered pair_up header_of place_of walk_from count_of locate rle_of ranged_of kind_of standard_rule crate_rule
    fitness check_of fields_of time_of has clear_rule summary_from summary_of values_in range_of offset_of inside number_of
    values_of numbers_from pairs_from echoes_of passes ones_in tries_from crate_numbers_from crate_pairs_from numbers_shown
    pairs_shown entries_shown record_of numbers_row pair_low jobs_from is_header_job is_block_job jobs_fault asked_of zeros_behind
    block_bytes blocks_bytes layout_of misleading_from write_fault packet_of ahead_of
records-hold =
    record {
      bytes = (refl, refl);
      parts = (refl, refl, refl);
      body-size = refl;
      second-byte = refl;
      flags = refl;
      no-flags = refl;
      good = refl;
      twelve = (refl, refl, refl, refl, refl);
    }

pub written-hold : Written
unfolding numbered pair_up header_of place_of walk_from count_of locate rle_of ranged_of kind_of standard_rule crate_rule
    fitness check_of fields_of time_of has clear_rule summary_from summary_of values_in range_of offset_of inside number_of
    values_of numbers_from pairs_from echoes_of passes ones_in tries_from crate_numbers_from crate_pairs_from numbers_shown
    pairs_shown entries_shown record_of numbers_row pair_low jobs_from is_header_job is_block_job jobs_fault asked_of zeros_behind
    block_bytes blocks_bytes layout_of misleading_from write_fault packet_of ahead_of
written-hold =
    record {
      asked = refl;
      numbers = refl;
      block = (refl, refl, refl, refl, refl);
      round_trip = (refl, refl, refl);
      packets = (refl, refl, refl);
    }

pub shown-hold : Shown
unfolding numbered pair_up header_of place_of walk_from count_of locate rle_of ranged_of kind_of standard_rule crate_rule
    fitness check_of fields_of time_of has clear_rule summary_from summary_of values_in range_of offset_of inside number_of
    values_of numbers_from pairs_from echoes_of passes ones_in tries_from crate_numbers_from crate_pairs_from numbers_shown
    pairs_shown entries_shown record_of numbers_row pair_low jobs_from is_header_job is_block_job jobs_fault asked_of zeros_behind
    block_bytes blocks_bytes layout_of misleading_from write_fault packet_of ahead_of
shown-hold =
    record {
      standard = (refl, refl, refl, refl);
      crate = (refl, refl, refl);
      in_a_row = (refl, refl, refl, refl);
      itself = (refl, refl, refl);
      differ = refl;
      fours-differ = (refl, refl);
      absent-is-not-zero = refl;
      one-absent = refl;
      by-toh = (refl, refl);
      kinds-differ = refl;
    }

pub misled-hold : Misled
unfolding numbered pair_up header_of place_of walk_from count_of locate rle_of ranged_of kind_of standard_rule crate_rule
    fitness check_of fields_of time_of has clear_rule summary_from summary_of values_in range_of offset_of inside number_of
    values_of numbers_from pairs_from echoes_of passes ones_in tries_from crate_numbers_from crate_pairs_from numbers_shown
    pairs_shown entries_shown record_of numbers_row pair_low jobs_from is_header_job is_block_job jobs_fault asked_of zeros_behind
    block_bytes blocks_bytes layout_of misleading_from write_fault packet_of ahead_of
misled-hold =
    record {
      nothing-more = (refl, refl, refl, refl);
      against-a-refusal = (refl, refl, refl);
      differing = (refl, refl, refl, refl, refl, refl, refl);
      in-a-packet = (refl, refl, refl);
      careful-writes = (refl, refl, refl, refl, refl, refl);
      fifteen = (refl, refl, refl, refl);
      order = (refl, refl);
    }
