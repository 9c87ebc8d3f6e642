-- The steps and a call by computation: beside the definition on the bytes of a packet with a block of each kind, given
-- at once and cut at many places, and on states that no call gives.
use Rattle.std.specs.Prelude.{Ok, Err}
use Prim.Native.Nat.{ℕ}
use mathlib.Core.Path.{◌≡◌, refl}
use mathlib.Core.List.{List, [], ◌∷◌}
use lib.ListN.{take}
use Rattle.def_refusals.specs.declared.Refusal.TheVariants.{BadBlockLength, PastEnd}
use Rattle.def_wire.specs.Bytes.{pair_up}
use Rattle.def_wire.specs.Block.{rle_of, ranged_of, kind_of, standard_rule, has, clear_rule}
use Rattle.def_standard.specs.Chunks.{values_in}
use Rattle.def_standard.specs.Range.{ahead_of, range_of, offset_of, inside, number_of}
use Rattle.def_standard.specs.Standard.{values_of, numbers_from, pairs_from, echoes_of}
use Rattle.def_portions.specs.declared.Event.TheVariants.{Header, Ranged as RangedStart, Number}
use Rattle.def_portions.specs.Events.{Course, course, head_fault, block_fault, kind_events, blocks_from, course_of}
use Rattle.def_portions.specs.Events.{clear_words, kind_then}
use Rattle.range.specs.Inside.{ceil_div, inside_count}
use Rattle.ones.specs.Along.{along}
use Rattle.states.specs.declared.Portions.{Portions}
use Rattle.states.specs.Steps.{state, known, word, start, held_over, fault_of, next_block, opened, in_block, in_packet}
use Rattle.states.specs.Steps.{ranged, passed, lone_of, shown_by, settled, settled_events, next, events_at}
use Rattle.states.specs.Steps.{after, shows, time}
use Rattle.states.specs.Call.{announced_by, taken_in, past_of}

abbrev packet : List ℕ
packet =
    128 ∷ 207 ∷ 0 ∷ 19 ∷ 0 ∷ 0 ∷ 0 ∷ 1 ∷ 1 ∷ 1 ∷ 0 ∷ 3 ∷ 0 ∷ 0 ∷ 0 ∷ 7 ∷ 0 ∷ 10 ∷ 0 ∷ 14 ∷ 64 ∷ 1 ∷ 224 ∷ 0 ∷ 3 ∷
    0 ∷ 0 ∷ 5 ∷ 0 ∷ 0 ∷ 0 ∷ 7 ∷ 255 ∷ 255 ∷ 0 ∷ 1 ∷ 0 ∷ 0 ∷ 0 ∷ 100 ∷ 0 ∷ 0 ∷ 0 ∷ 200 ∷ 0 ∷ 0 ∷ 1 ∷ 44 ∷ 4 ∷ 0 ∷ 0
    ∷ 2 ∷ 0 ∷ 0 ∷ 0 ∷ 0 ∷ 0 ∷ 0 ∷ 0 ∷ 9 ∷ 5 ∷ 0 ∷ 0 ∷ 3 ∷ 0 ∷ 0 ∷ 0 ∷ 1 ∷ 0 ∷ 0 ∷ 0 ∷ 2 ∷ 0 ∷ 0 ∷ 0 ∷ 3 ∷ 99 ∷ 0 ∷
    0 ∷ 0 ∷ []

abbrev runs : List ℕ → Course
runs b = course (shows start b) (fault_of (after start b))

cut-3 : runs (take 3 packet) ≡ course_of (take 3 packet)
unfolding pair_up rle_of ranged_of kind_of standard_rule values_in ahead_of range_of offset_of inside number_of values_of
    numbers_from pairs_from echoes_of head_fault block_fault kind_events blocks_from course_of ceil_div inside_count along start
    held_over fault_of next_block opened in_block in_packet ranged passed lone_of shown_by settled settled_events next events_at
    after shows has clear_rule clear_words kind_then
cut-3 = refl

cut-4 : runs (take 4 packet) ≡ course_of (take 4 packet)
unfolding pair_up rle_of ranged_of kind_of standard_rule values_in ahead_of range_of offset_of inside number_of values_of
    numbers_from pairs_from echoes_of head_fault block_fault kind_events blocks_from course_of ceil_div inside_count along start
    held_over fault_of next_block opened in_block in_packet ranged passed lone_of shown_by settled settled_events next events_at
    after shows has clear_rule clear_words kind_then
cut-4 = refl

cut-8 : runs (take 8 packet) ≡ course_of (take 8 packet)
unfolding pair_up rle_of ranged_of kind_of standard_rule values_in ahead_of range_of offset_of inside number_of values_of
    numbers_from pairs_from echoes_of head_fault block_fault kind_events blocks_from course_of ceil_div inside_count along start
    held_over fault_of next_block opened in_block in_packet ranged passed lone_of shown_by settled settled_events next events_at
    after shows has clear_rule clear_words kind_then
cut-8 = refl

cut-12 : runs (take 12 packet) ≡ course_of (take 12 packet)
unfolding pair_up rle_of ranged_of kind_of standard_rule values_in ahead_of range_of offset_of inside number_of values_of
    numbers_from pairs_from echoes_of head_fault block_fault kind_events blocks_from course_of ceil_div inside_count along start
    held_over fault_of next_block opened in_block in_packet ranged passed lone_of shown_by settled settled_events next events_at
    after shows has clear_rule clear_words kind_then
cut-12 = refl

cut-19 : runs (take 19 packet) ≡ course_of (take 19 packet)
unfolding pair_up rle_of ranged_of kind_of standard_rule values_in ahead_of range_of offset_of inside number_of values_of
    numbers_from pairs_from echoes_of head_fault block_fault kind_events blocks_from course_of ceil_div inside_count along start
    held_over fault_of next_block opened in_block in_packet ranged passed lone_of shown_by settled settled_events next events_at
    after shows has clear_rule clear_words kind_then
cut-19 = refl

cut-20 : runs (take 20 packet) ≡ course_of (take 20 packet)
unfolding pair_up rle_of ranged_of kind_of standard_rule values_in ahead_of range_of offset_of inside number_of values_of
    numbers_from pairs_from echoes_of head_fault block_fault kind_events blocks_from course_of ceil_div inside_count along start
    held_over fault_of next_block opened in_block in_packet ranged passed lone_of shown_by settled settled_events next events_at
    after shows has clear_rule clear_words kind_then
cut-20 = refl

cut-21 : runs (take 21 packet) ≡ course_of (take 21 packet)
unfolding pair_up rle_of ranged_of kind_of standard_rule values_in ahead_of range_of offset_of inside number_of values_of
    numbers_from pairs_from echoes_of head_fault block_fault kind_events blocks_from course_of ceil_div inside_count along start
    held_over fault_of next_block opened in_block in_packet ranged passed lone_of shown_by settled settled_events next events_at
    after shows has clear_rule clear_words kind_then
cut-21 = refl

cut-22 : runs (take 22 packet) ≡ course_of (take 22 packet)
unfolding pair_up rle_of ranged_of kind_of standard_rule values_in ahead_of range_of offset_of inside number_of values_of
    numbers_from pairs_from echoes_of head_fault block_fault kind_events blocks_from course_of ceil_div inside_count along start
    held_over fault_of next_block opened in_block in_packet ranged passed lone_of shown_by settled settled_events next events_at
    after shows has clear_rule clear_words kind_then
cut-22 = refl

cut-24 : runs (take 24 packet) ≡ course_of (take 24 packet)
unfolding pair_up rle_of ranged_of kind_of standard_rule values_in ahead_of range_of offset_of inside number_of values_of
    numbers_from pairs_from echoes_of head_fault block_fault kind_events blocks_from course_of ceil_div inside_count along start
    held_over fault_of next_block opened in_block in_packet ranged passed lone_of shown_by settled settled_events next events_at
    after shows has clear_rule clear_words kind_then
cut-24 = refl

cut-36 : runs (take 36 packet) ≡ course_of (take 36 packet)
unfolding pair_up rle_of ranged_of kind_of standard_rule values_in ahead_of range_of offset_of inside number_of values_of
    numbers_from pairs_from echoes_of head_fault block_fault kind_events blocks_from course_of ceil_div inside_count along start
    held_over fault_of next_block opened in_block in_packet ranged passed lone_of shown_by settled settled_events next events_at
    after shows has clear_rule clear_words kind_then
cut-36 = refl

cut-40 : runs (take 40 packet) ≡ course_of (take 40 packet)
unfolding pair_up rle_of ranged_of kind_of standard_rule values_in ahead_of range_of offset_of inside number_of values_of
    numbers_from pairs_from echoes_of head_fault block_fault kind_events blocks_from course_of ceil_div inside_count along start
    held_over fault_of next_block opened in_block in_packet ranged passed lone_of shown_by settled settled_events next events_at
    after shows has clear_rule clear_words kind_then
cut-40 = refl

cut-44 : runs (take 44 packet) ≡ course_of (take 44 packet)
unfolding pair_up rle_of ranged_of kind_of standard_rule values_in ahead_of range_of offset_of inside number_of values_of
    numbers_from pairs_from echoes_of head_fault block_fault kind_events blocks_from course_of ceil_div inside_count along start
    held_over fault_of next_block opened in_block in_packet ranged passed lone_of shown_by settled settled_events next events_at
    after shows has clear_rule clear_words kind_then
cut-44 = refl

cut-52 : runs (take 52 packet) ≡ course_of (take 52 packet)
unfolding pair_up rle_of ranged_of kind_of standard_rule values_in ahead_of range_of offset_of inside number_of values_of
    numbers_from pairs_from echoes_of head_fault block_fault kind_events blocks_from course_of ceil_div inside_count along start
    held_over fault_of next_block opened in_block in_packet ranged passed lone_of shown_by settled settled_events next events_at
    after shows has clear_rule clear_words kind_then
cut-52 = refl

cut-60 : runs (take 60 packet) ≡ course_of (take 60 packet)
unfolding pair_up rle_of ranged_of kind_of standard_rule values_in ahead_of range_of offset_of inside number_of values_of
    numbers_from pairs_from echoes_of head_fault block_fault kind_events blocks_from course_of ceil_div inside_count along start
    held_over fault_of next_block opened in_block in_packet ranged passed lone_of shown_by settled settled_events next events_at
    after shows has clear_rule clear_words kind_then
cut-60 = refl

cut-72 : runs (take 72 packet) ≡ course_of (take 72 packet)
unfolding pair_up rle_of ranged_of kind_of standard_rule values_in ahead_of range_of offset_of inside number_of values_of
    numbers_from pairs_from echoes_of head_fault block_fault kind_events blocks_from course_of ceil_div inside_count along start
    held_over fault_of next_block opened in_block in_packet ranged passed lone_of shown_by settled settled_events next events_at
    after shows has clear_rule clear_words kind_then
cut-72 = refl

cut-76 : runs (take 76 packet) ≡ course_of (take 76 packet)
unfolding pair_up rle_of ranged_of kind_of standard_rule values_in ahead_of range_of offset_of inside number_of values_of
    numbers_from pairs_from echoes_of head_fault block_fault kind_events blocks_from course_of ceil_div inside_count along start
    held_over fault_of next_block opened in_block in_packet ranged passed lone_of shown_by settled settled_events next events_at
    after shows has clear_rule clear_words kind_then
cut-76 = refl

whole : runs packet ≡ course_of packet
unfolding pair_up rle_of ranged_of kind_of standard_rule values_in ahead_of range_of offset_of inside number_of values_of
    numbers_from pairs_from echoes_of head_fault block_fault kind_events blocks_from course_of ceil_div inside_count along start
    held_over fault_of next_block opened in_block in_packet ranged passed lone_of shown_by settled settled_events next events_at
    after shows has clear_rule clear_words kind_then
whole = refl

-- a header of version 1: it stays at hand, and takes no byte more
stays : after start (64 ∷ 207 ∷ 0 ∷ 1 ∷ 9 ∷ []) ≡ after start (64 ∷ 207 ∷ 0 ∷ 1 ∷ [])
unfolding pair_up rle_of ranged_of kind_of standard_rule values_in ahead_of range_of offset_of inside number_of values_of
    numbers_from pairs_from echoes_of head_fault block_fault kind_events blocks_from course_of ceil_div inside_count along start
    held_over fault_of next_block opened in_block in_packet ranged passed lone_of shown_by settled settled_events next events_at
    after shows has clear_rule clear_words kind_then
stays = refl

-- an item of which no byte is missing takes none; where no length was announced, any byte behind the header is too many
none-taken : after (state word 0 5 0 0 (known 0 0 0 0 0)) (1 ∷ 2 ∷ []) ≡ state word 0 5 0 0 (known 0 0 0 0 0)
unfolding after next
none-taken = refl

past : past_of (state word 2 0 0 0 (known 0 0 0 0 0)) (1 ∷ []) ≡ Err (PastEnd 0 1)
unfolding past_of announced_by taken_in
past = refl

not-past : past_of (state word 2 0 0 0 (known 0 0 0 0 0)) [] ≡ Ok tt
unfolding past_of announced_by taken_in
not-past = refl

-- an item of a type 1 block of 20 bytes, of which no byte is missing
abbrev complete : ℕ → ℕ → Portions
complete item held = state item 0 held 4 0 (known 28 16777220 0 10 4)

-- a word that is a run of no length: 7 with the block's length
lost-run : fault_of (complete word 16384) ≡ Err (BadBlockLength 12 20)
unfolding fault_of has clear_rule
lost-run = refl

-- what was held before its two bytes does not count
lost-run-low : fault_of (complete word 81920) ≡ Err (BadBlockLength 12 20)
unfolding fault_of has clear_rule
lost-run-low = refl

-- its neighbours, its bytes the other way round, and a time of the same number
below : fault_of (complete word 16383) ≡ Ok tt
unfolding fault_of has clear_rule
below = refl

above : fault_of (complete word 16385) ≡ Ok tt
unfolding fault_of has clear_rule
above = refl

swapped : fault_of (complete word 64) ≡ Ok tt
unfolding fault_of has clear_rule
swapped = refl

of-time : fault_of (complete time 16384) ≡ Ok tt
unfolding fault_of has clear_rule
of-time = refl

-- it stays at hand, and shows nothing; bytes behind it are not taken, and it is refused again
lost-settled : settled (complete word 16384) ≡ complete word 16384
unfolding settled has clear_rule
lost-settled = refl

lost-events : settled_events (complete word 16384) ≡ []
unfolding settled_events has clear_rule
lost-events = refl

lost-again : fault_of (after (complete word 16384) (64 ∷ 1 ∷ [])) ≡ Err (BadBlockLength 12 20)
unfolding fault_of after next has clear_rule
lost-again = refl

-- a packet of one block, whose second word of four is such a run
abbrev lost : List ℕ
lost =
    128 ∷ 207 ∷ 0 ∷ 6 ∷ 0 ∷ 0 ∷ 0 ∷ 1 ∷ 1 ∷ 0 ∷ 0 ∷ 4 ∷ 0 ∷ 0 ∷ 0 ∷ 7 ∷ 0 ∷ 10 ∷ 0 ∷ 20 ∷ 64 ∷ 2 ∷ 64 ∷ 0 ∷ 64 ∷ 3 ∷ 0
    ∷ 0 ∷ []

lost-23 : runs (take 23 lost) ≡ course_of (take 23 lost)
unfolding pair_up rle_of ranged_of kind_of standard_rule values_in ahead_of range_of offset_of inside number_of values_of
    numbers_from pairs_from echoes_of head_fault block_fault kind_events blocks_from course_of ceil_div inside_count along start
    held_over fault_of next_block opened in_block in_packet ranged passed lone_of shown_by settled settled_events next events_at
    after shows has clear_rule clear_words kind_then
lost-23 = refl

lost-24 : runs (take 24 lost) ≡ course_of (take 24 lost)
unfolding pair_up rle_of ranged_of kind_of standard_rule values_in ahead_of range_of offset_of inside number_of values_of
    numbers_from pairs_from echoes_of head_fault block_fault kind_events blocks_from course_of ceil_div inside_count along start
    held_over fault_of next_block opened in_block in_packet ranged passed lone_of shown_by settled settled_events next events_at
    after shows has clear_rule clear_words kind_then
lost-24 = refl

lost-whole : runs lost ≡ course_of lost
unfolding pair_up rle_of ranged_of kind_of standard_rule values_in ahead_of range_of offset_of inside number_of values_of
    numbers_from pairs_from echoes_of head_fault block_fault kind_events blocks_from course_of ceil_div inside_count along start
    held_over fault_of next_block opened in_block in_packet ranged passed lone_of shown_by settled settled_events next events_at
    after shows has clear_rule clear_words kind_then
lost-whole = refl

lost-course : course_of lost
    ≡ course
    (Header 28 1 ∷ RangedStart 1 20 (record { ssrc = 7; begin = 10; end = 20; thinning = 0 }) ∷ Number 10 ∷ Number 11
    ∷ []) (Err (BadBlockLength 12 20))
unfolding pair_up rle_of ranged_of kind_of standard_rule values_in ahead_of range_of offset_of inside number_of values_of
    numbers_from pairs_from echoes_of head_fault block_fault kind_events blocks_from course_of ceil_div inside_count along start
    held_over fault_of next_block opened in_block in_packet ranged passed lone_of shown_by settled settled_events next events_at
    after shows has clear_rule clear_words kind_then
lost-course = refl
