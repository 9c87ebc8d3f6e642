-- Statistics Summary blocks byte by byte, by computation: four items of eight bytes, one of four, and its event there.
use Rattle.std.specs.Prelude.{Err, Some, None}
use Prim.Native.Nat.{ℕ}
use mathlib.Core.Path.{◌≡◌, refl}
use mathlib.Core.List.{List, [], ◌∷◌}
use lib.ListN.{take}
use Rattle.def_refusals.specs.declared.Refusal.TheVariants.{BadBlockLength}
use Rattle.def_wire.specs.declared.HopsOr.TheVariants.{HopLimit}
use Rattle.def_wire.specs.Bytes.{pair_up}
use Rattle.def_wire.specs.Block.{rle_of, ranged_of, kind_of, standard_rule}
use Rattle.def_wire.specs.Summary.{spread, byte_spread, summary_from}
use Rattle.def_portions.specs.declared.Event.TheVariants.{Header, Start, Summed, End}
use Rattle.def_portions.specs.Events.{Course, course, head_fault, block_fault, kind_events, blocks_from, course_of, kind_then}
use Rattle.states.specs.Steps.{state, known, known_with, kept, block, sums, hops, start, held_over, fault_of}
use Rattle.states.specs.Steps.{next_block, opened, in_block, in_packet, passed, summed_on, lone_of, shown_by, settled}
use Rattle.states.specs.Steps.{settled_events, next, events_at, after, shows}

-- a packet of a summary and of a block of another type: lost and jitter stand there, duplicates do not, and the hop
-- limit; its reserved bits are set
abbrev packet : List ℕ
packet =
    128 ∷ 207 ∷ 0 ∷ 12 ∷ 0 ∷ 0 ∷ 0 ∷ 1 ∷ 6 ∷ 183 ∷ 0 ∷ 9 ∷ 0 ∷ 0 ∷ 0 ∷ 7 ∷ 255 ∷ 254 ∷ 0 ∷ 3 ∷ 0 ∷ 0 ∷ 1 ∷ 2 ∷ 0 ∷ 0
    ∷ 0 ∷ 5 ∷ 0 ∷ 0 ∷ 0 ∷ 10 ∷ 0 ∷ 0 ∷ 0 ∷ 20 ∷ 0 ∷ 0 ∷ 0 ∷ 15 ∷ 128 ∷ 0 ∷ 0 ∷ 2 ∷ 60 ∷ 64 ∷ 62 ∷ 1 ∷ 99 ∷ 0 ∷ 0 ∷ 0
    ∷ []

abbrev runs : List ℕ → Course
runs b = course (shows start b) (fault_of (after start b))

cut-11 : runs (take 11 packet) ≡ course_of (take 11 packet)
unfolding pair_up rle_of ranged_of kind_of standard_rule head_fault block_fault kind_events blocks_from course_of start held_over
    fault_of next_block opened in_block in_packet passed summed_on summary_from lone_of shown_by settled settled_events next
    events_at after shows kind_then
cut-11 = refl

cut-12 : runs (take 12 packet) ≡ course_of (take 12 packet)
unfolding pair_up rle_of ranged_of kind_of standard_rule head_fault block_fault kind_events blocks_from course_of start held_over
    fault_of next_block opened in_block in_packet passed summed_on summary_from lone_of shown_by settled settled_events next
    events_at after shows kind_then
cut-12 = refl

cut-19 : runs (take 19 packet) ≡ course_of (take 19 packet)
unfolding pair_up rle_of ranged_of kind_of standard_rule head_fault block_fault kind_events blocks_from course_of start held_over
    fault_of next_block opened in_block in_packet passed summed_on summary_from lone_of shown_by settled settled_events next
    events_at after shows kind_then
cut-19 = refl

cut-20 : runs (take 20 packet) ≡ course_of (take 20 packet)
unfolding pair_up rle_of ranged_of kind_of standard_rule head_fault block_fault kind_events blocks_from course_of start held_over
    fault_of next_block opened in_block in_packet passed summed_on summary_from lone_of shown_by settled settled_events next
    events_at after shows kind_then
cut-20 = refl

cut-27 : runs (take 27 packet) ≡ course_of (take 27 packet)
unfolding pair_up rle_of ranged_of kind_of standard_rule head_fault block_fault kind_events blocks_from course_of start held_over
    fault_of next_block opened in_block in_packet passed summed_on summary_from lone_of shown_by settled settled_events next
    events_at after shows kind_then
cut-27 = refl

cut-28 : runs (take 28 packet) ≡ course_of (take 28 packet)
unfolding pair_up rle_of ranged_of kind_of standard_rule head_fault block_fault kind_events blocks_from course_of start held_over
    fault_of next_block opened in_block in_packet passed summed_on summary_from lone_of shown_by settled settled_events next
    events_at after shows kind_then
cut-28 = refl

cut-36 : runs (take 36 packet) ≡ course_of (take 36 packet)
unfolding pair_up rle_of ranged_of kind_of standard_rule head_fault block_fault kind_events blocks_from course_of start held_over
    fault_of next_block opened in_block in_packet passed summed_on summary_from lone_of shown_by settled settled_events next
    events_at after shows kind_then
cut-36 = refl

cut-40 : runs (take 40 packet) ≡ course_of (take 40 packet)
unfolding pair_up rle_of ranged_of kind_of standard_rule head_fault block_fault kind_events blocks_from course_of start held_over
    fault_of next_block opened in_block in_packet passed summed_on summary_from lone_of shown_by settled settled_events next
    events_at after shows kind_then
cut-40 = refl

cut-43 : runs (take 43 packet) ≡ course_of (take 43 packet)
unfolding pair_up rle_of ranged_of kind_of standard_rule head_fault block_fault kind_events blocks_from course_of start held_over
    fault_of next_block opened in_block in_packet passed summed_on summary_from lone_of shown_by settled settled_events next
    events_at after shows kind_then
cut-43 = refl

cut-44 : runs (take 44 packet) ≡ course_of (take 44 packet)
unfolding pair_up rle_of ranged_of kind_of standard_rule head_fault block_fault kind_events blocks_from course_of start held_over
    fault_of next_block opened in_block in_packet passed summed_on summary_from lone_of shown_by settled settled_events next
    events_at after shows kind_then
cut-44 = refl

cut-45 : runs (take 45 packet) ≡ course_of (take 45 packet)
unfolding pair_up rle_of ranged_of kind_of standard_rule head_fault block_fault kind_events blocks_from course_of start held_over
    fault_of next_block opened in_block in_packet passed summed_on summary_from lone_of shown_by settled settled_events next
    events_at after shows kind_then
cut-45 = refl

cut-47 : runs (take 47 packet) ≡ course_of (take 47 packet)
unfolding pair_up rle_of ranged_of kind_of standard_rule head_fault block_fault kind_events blocks_from course_of start held_over
    fault_of next_block opened in_block in_packet passed summed_on summary_from lone_of shown_by settled settled_events next
    events_at after shows kind_then
cut-47 = refl

cut-48 : runs (take 48 packet) ≡ course_of (take 48 packet)
unfolding pair_up rle_of ranged_of kind_of standard_rule head_fault block_fault kind_events blocks_from course_of start held_over
    fault_of next_block opened in_block in_packet passed summed_on summary_from lone_of shown_by settled settled_events next
    events_at after shows kind_then
cut-48 = refl

cut-51 : runs (take 51 packet) ≡ course_of (take 51 packet)
unfolding pair_up rle_of ranged_of kind_of standard_rule head_fault block_fault kind_events blocks_from course_of start held_over
    fault_of next_block opened in_block in_packet passed summed_on summary_from lone_of shown_by settled settled_events next
    events_at after shows kind_then
cut-51 = refl

whole : runs packet ≡ course_of packet
unfolding pair_up rle_of ranged_of kind_of standard_rule head_fault block_fault kind_events blocks_from course_of start held_over
    fault_of next_block opened in_block in_packet passed summed_on summary_from lone_of shown_by settled settled_events next
    events_at after shows kind_then
whole = refl

shown : shows start packet
    ≡ Header 52 1 ∷ Start 6 40
    ∷ Summed
    (record {
      ssrc = 7;
      begin = 65534;
      end = 3;
      lost = Some 258;
      duplicates = None;
      jitter = Some (spread 10 20 15 2147483650);
      hops = HopLimit (byte_spread 60 64 62 1);
    })
    ∷ Start 99 4 ∷ End ∷ []
unfolding pair_up rle_of ranged_of kind_of standard_rule head_fault block_fault kind_events blocks_from course_of start held_over
    fault_of next_block opened in_block in_packet passed summed_on summary_from lone_of shown_by settled settled_events next
    events_at after shows kind_then
shown = refl

-- the items: what has come of the numbers is kept, the last eight bytes last, and nothing of it behind the block
first : after start (take 12 packet) ≡ state sums 8 0 28 4 (known 52 112656393 0 0 0)
unfolding pair_up rle_of ranged_of kind_of standard_rule head_fault block_fault kind_events blocks_from course_of start held_over
    fault_of next_block opened in_block in_packet passed summed_on summary_from lone_of shown_by settled settled_events next
    events_at after shows kind_then
first = refl

second : after start (take 20 packet) ≡ state sums 8 0 20 4 (known_with 52 112656393 0 0 0 (kept 0 0 0 34359607299))
unfolding pair_up rle_of ranged_of kind_of standard_rule head_fault block_fault kind_events blocks_from course_of start held_over
    fault_of next_block opened in_block in_packet passed summed_on summary_from lone_of shown_by settled settled_events next
    events_at after shows kind_then
second = refl

last : after start (take 44 packet)
    ≡ state hops 4 0 0 4
    (known_with 52 112656393 0 0 0 (kept 34359607299 1108101562373 42949672980 66571993090))
unfolding pair_up rle_of ranged_of kind_of standard_rule head_fault block_fault kind_events blocks_from course_of start held_over
    fault_of next_block opened in_block in_packet passed summed_on summary_from lone_of shown_by settled settled_events next
    events_at after shows kind_then
last = refl

behind : after start (take 48 packet) ≡ state block 4 0 0 0 (known 52 0 0 0 0)
unfolding pair_up rle_of ranged_of kind_of standard_rule head_fault block_fault kind_events blocks_from course_of start held_over
    fault_of next_block opened in_block in_packet passed summed_on summary_from lone_of shown_by settled settled_events next
    events_at after shows kind_then
behind = refl

-- of another length: 7 at its fourth byte
abbrev longer : List ℕ
longer = 128 ∷ 207 ∷ 0 ∷ 12 ∷ 0 ∷ 0 ∷ 0 ∷ 1 ∷ 6 ∷ 0 ∷ 0 ∷ 10 ∷ []

refused : runs longer ≡ course (Header 52 1 ∷ []) (Err (BadBlockLength 40 44))
unfolding pair_up rle_of ranged_of kind_of standard_rule head_fault block_fault kind_events blocks_from course_of start held_over
    fault_of next_block opened in_block in_packet passed summed_on summary_from lone_of shown_by settled settled_events next
    events_at after shows kind_then
refused = refl

refused-too : runs longer ≡ course_of longer
unfolding pair_up rle_of ranged_of kind_of standard_rule head_fault block_fault kind_events blocks_from course_of start held_over
    fault_of next_block opened in_block in_packet passed summed_on summary_from lone_of shown_by settled settled_events next
    events_at after shows kind_then
refused-too = refl
