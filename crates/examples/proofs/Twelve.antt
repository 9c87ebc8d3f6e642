-- The twelve examples, by computation.
use mathlib.Core.Path.{refl}
use Rattle.def_refusals.specs.Numbers.{numbered}
use Rattle.def_wire.specs.Bytes.{pair_up}
use Rattle.def_wire.specs.Packet.{header_of, place_of, walk_from, count_of, locate}
use Rattle.def_wire.specs.Block.{rle_of, ranged_of, kind_of, standard_rule, crate_rule, fitness, check_of, fields_of, time_of}
use Rattle.def_wire.specs.Block.{has, clear_rule}
use Rattle.def_standard.specs.Chunks.{values_in}
use Rattle.def_standard.specs.Range.{ahead_of, range_of, offset_of, inside, number_of}
use Rattle.def_standard.specs.Standard.{values_of, numbers_from, pairs_from, echoes_of}
use Rattle.def_crate.specs.Sequence.{passes}
use Rattle.def_crate.specs.Crate.{ones_in, tries_from, crate_numbers_from, crate_pairs_from}
use Rattle.def_questions.specs.Questions.{numbers_shown, pairs_shown, entries_shown}
use Rattle.def_questions.specs.Packets.{numbers_asked, pairs_asked, entries_asked, fields_asked}
use Rattle.def_jobs.specs.Shown.{record_of, numbers_row}
use Rattle.def_jobs.specs.Jobs.{pair_low, jobs_from, is_header_job, is_block_job, jobs_fault}
use Rattle.def_jobs.specs.Layout.{zeros_behind, block_bytes, blocks_bytes, layout_of}
use Rattle.def_jobs.specs.Writing.{misleading_from, write_fault, packet_of}
use Rattle.examples.specs.Examples.{Twelve}

pub twelve : Twelve
unfolding numbered rle_of ranged_of kind_of pair_up header_of place_of walk_from count_of locate standard_rule crate_rule
    fitness check_of fields_of time_of values_in range_of offset_of inside number_of values_of numbers_from pairs_from
    echoes_of passes ones_in tries_from crate_numbers_from crate_pairs_from numbers_shown pairs_shown entries_shown
    numbers_asked pairs_asked entries_asked fields_asked record_of numbers_row pair_low jobs_from is_header_job is_block_job
    jobs_fault zeros_behind block_bytes blocks_bytes layout_of misleading_from write_fault packet_of has clear_rule ahead_of
twelve =
    record {
      one = (refl, refl, refl, refl);
      two = (refl, refl);
      three = (refl, refl);
      four = (refl, refl, refl, refl, refl, refl, refl);
      five = (refl, refl);
      six = (refl, refl);
      seven = (refl, refl);
      eight = (refl, refl);
      nine = (refl, refl, refl);
      ten = (refl, refl, refl, refl, refl);
      eleven = (refl, refl);
      twelve = (refl, refl, refl);
    }
