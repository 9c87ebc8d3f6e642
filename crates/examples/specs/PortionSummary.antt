-- Facts of def_portions for type 6: the start at a summary's fourth byte, the summary at its last, 7 for another
-- length, and how four lists hold it.
-- RULES, "Packets in portions".
use Rattle.std.specs.Prelude.{ℕ, ◌≡◌, List, [], ◌∷◌, ◌++◌, map, take, drop, replicate, Ok, Err, Some, None}
use Rattle.def_refusals.specs.declared.Refusal.TheVariants.{NoRoom, BlockTooLong, BadBlockLength}
use Rattle.def_wire.specs.declared.Kind.TheVariants.{Statistics}
use Rattle.def_wire.specs.declared.HopsOr.TheVariants.{Unknown}
use Rattle.def_wire.specs.Summary.{byte_spread}
use Rattle.def_portions.specs.declared.Event.TheVariants.{Header, Start, Ranged as RangedStart, Number, Summed, End}
use Rattle.def_portions.specs.Events.{block_fault, block_events, course_of, course, clear_part, lost_fault}
use Rattle.def_portions.specs.Calls.{call_of}
use Rattle.def_portions.specs.Lists.{keeps, puts, tag_of, number_part, value_part, tag_part, laid, laid_sums, room_in}
use Rattle.def_portions.specs.Lists.{span_value, hops_number, summary_tag, sums_row, put_sums}
use Rattle.examples.specs.Rows.{rows, packet, fields}
use Rattle.examples.specs.Portions.{pair, entry, time, lost-loss}
use Rattle.examples.specs.PortionCalls.{call}
use Rattle.examples.specs.WireSummary.{words-with, a_block, the-sums, sums-of, with-numbers, full, empty, lost}
use Rattle.examples.specs.WireSummary.{twice, jitter, hops}

pub record OneBlock : Type 0 where
  -- 7 with 40 and L, at the block's fourth byte
  pub seven :
      (block_fault 99 (rows (0x06000009 ∷ [])) ≡ Ok tt)
      × (block_fault 99 (rows (0x06e80008 ∷ [])) ≡ Err (BadBlockLength 40 36))
      × (block_fault 99 (rows (0x0600000a ∷ [])) ≡ Err (BadBlockLength 40 44))
      × (block_fault 99 (rows (0x06000000 ∷ [])) ≡ Err (BadBlockLength 40 4))
  -- 6 first
  pub six-first :
      (block_fault 40 (rows (0x06000009 ∷ [])) ≡ Ok tt)
      × (block_fault 36 (rows (0x06000009 ∷ [])) ≡ Err (BlockTooLong 40 36))
      × (block_fault 32 (rows (0x06000008 ∷ [])) ≡ Err (BlockTooLong 36 32))
  -- the start with byte 4, and nothing more before byte 40
  pub so_far :
      (block_events (take 4 (a_block 232)) ≡ Start 6 40 ∷ []) × (block_events (take 5 (a_block 232)) ≡ Start 6 40 ∷ [])
      × (block_events (take 20 (a_block 232)) ≡ Start 6 40 ∷ [])
      × (block_events (take 39 (a_block 232)) ≡ Start 6 40 ∷ [])
      × (block_events (a_block 232) ≡ Start 6 40 ∷ Summed full ∷ [])
  -- by its flags, the reserved bits not looked at
  pub by_flags :
      (block_events (a_block 7) ≡ Start 6 40 ∷ Summed empty ∷ [])
      × (block_events (a_block 255) ≡ Start 6 40 ∷ Summed (with-numbers lost twice jitter Unknown) ∷ [])
      × (block_events (a_block 240) ≡ Start 6 40 ∷ Summed (with-numbers lost twice jitter hops) ∷ [])
  -- a run of ones of no length is nothing here
  pub no_words :
      (clear_part (Some Statistics) lost-loss ≡ lost-loss) × (lost_fault (Some Statistics) lost-loss ≡ Ok tt)

-- a summary, and a block behind it; a summary of 36 bytes behind a block
abbrev pub one-summary : List ℕ
one-summary = packet (words-with 232 ++ (0x63000000 ∷ []))

abbrev pub of-36 : List ℕ
of-36 = packet (0x63000000 ∷ 0x06000008 ∷ replicate 8 1)

pub record OfAPacket : Type 0 where
  pub so_far :
      (course_of (take 11 one-summary) ≡ course (Header 52 1 ∷ []) (Ok tt))
      × (course_of (take 12 one-summary) ≡ course (Header 52 1 ∷ Start 6 40 ∷ []) (Ok tt))
      × (course_of (take 47 one-summary) ≡ course (Header 52 1 ∷ Start 6 40 ∷ []) (Ok tt))
      × (course_of (take 48 one-summary) ≡ course (Header 52 1 ∷ Start 6 40 ∷ Summed full ∷ []) (Ok tt))
      × (course_of one-summary ≡ course (Header 52 1 ∷ Start 6 40 ∷ Summed full ∷ Start 99 4 ∷ End ∷ []) (Ok tt))
  -- two, each its own
  pub two :
      course_of (packet (words-with 0 ++ words-with 240))
      ≡ course
      (Header 88 1 ∷ Start 6 40 ∷ Summed empty ∷ Start 6 40 ∷ Summed (with-numbers lost twice jitter hops) ∷ End ∷ [])
      (Ok tt)
  -- of another length: its start is not told, nor what is behind it
  pub seven :
      (course_of (take 15 of-36) ≡ course (Header 48 1 ∷ Start 99 4 ∷ []) (Ok tt))
      × (course_of (take 16 of-36) ≡ course (Header 48 1 ∷ Start 99 4 ∷ []) (Err (BadBlockLength 40 36)))
      × (course_of of-36 ≡ course (Header 48 1 ∷ Start 99 4 ∷ []) (Err (BadBlockLength 40 36)))
  -- one call's events; room for both, and for one
  pub calls :
      (call_of (take 8 one-summary) (take 40 (drop 8 one-summary)) 2
      ≡ call (Start 6 40 ∷ Summed full ∷ []) (Ok tt) (take 48 one-summary))
      × (call_of (take 47 one-summary) (take 1 (drop 47 one-summary)) 1
      ≡ call (Summed full ∷ []) (Ok tt) (take 48 one-summary))
      × (call_of (take 47 one-summary) (take 1 (drop 47 one-summary)) 0
      ≡ call [] (Err (NoRoom 1 0)) (take 47 one-summary))
      × (call_of (take 8 one-summary) (take 40 (drop 8 one-summary)) 1
      ≡ call [] (Err (NoRoom 2 1)) (take 8 one-summary))
      × (call_of (take 12 of-36) (take 4 (drop 12 of-36)) 0 ≡ call [] (Err (BadBlockLength 40 36)) (take 16 of-36))

-- a list of so many items, all 5
abbrev pub fives : ℕ → List ℕ
fives n = replicate n 5

-- how a summary is held
pub record Held : Type 0 where
  -- the four bytes, the last of them lowest; flags below them; 9 lowest
  pub numbers :
      (hops_number (byte_spread 0x81 0x82 0x83 0x84) ≡ 0x81828384)
      × (summary_tag 232 the-sums ≡ 0x81828384e809) × (summary_tag 1 (sums-of 0 0 0 0) ≡ 0x0109)
      × (span_value 0x0a0b0c0d 0x1112 0x1314 ≡ 0x0a0b0c0d11121314)
  pub row : sums_row the-sums ≡ 0x2122232431323334 ∷ 0x4142434451525354 ∷ 0x6162636471727374 ∷ []
  -- tag and value; no sequence number
  pub parts :
      (tag_of (Summed full) ≡ 0x81828384e809) × (number_part (Summed full) ≡ keeps)
      × (value_part (Summed full) ≡ puts 0x0a0b0c0d11121314)
  -- 0 where a number is absent, and its flag clear
  pub absent :
      (tag_of (Summed empty) ≡ 9) × (value_part (Summed empty) ≡ puts 0x0a0b0c0d11121314)
      × (tag_of (Summed (with-numbers None None None Unknown)) ≡ 0x1809)
      × (tag_of (Summed (with-numbers (Some 0) twice jitter hops)) ≡ 0x81828384f009)
      × (put_sums (Summed empty) 0 (fives 3) ≡ 0 ∷ 0 ∷ 0 ∷ [])
      × (put_sums (Summed (with-numbers lost None None hops)) 0 (fives 3) ≡ 0x2122232400000000 ∷ 0 ∷ 0 ∷ [])
      × (put_sums (Summed (with-numbers None twice jitter hops)) 0 (fives 3)
      ≡ 0x31323334 ∷ 0x4142434451525354 ∷ 0x6162636471727374 ∷ [])
  -- three items for each index
  pub three-each :
      (put_sums (Summed full) 0 (fives 4) ≡ 0x2122232431323334 ∷ 0x4142434451525354 ∷ 0x6162636471727374 ∷ 5 ∷ [])
      × (put_sums (Summed full) 1 (fives 6)
      ≡ 5 ∷ 5 ∷ 5 ∷ 0x2122232431323334 ∷ 0x4142434451525354 ∷ 0x6162636471727374 ∷ [])
  -- no other event puts anything there
  pub no_other :
      map (λ e. put_sums e 0 (fives 3))
      (Header 32 7 ∷ Start 6 40 ∷ RangedStart 2 16 (fields 7 10 14 5) ∷ Number 9 ∷ pair 9 100 ∷ entry 1 2 3 ∷ time 5
      ∷ End ∷ [])
      ≡ fives 3 ∷ fives 3 ∷ fives 3 ∷ fives 3 ∷ fives 3 ∷ fives 3 ∷ fives 3 ∷ fives 3 ∷ []
  -- one event after another, from an index on
  pub lists :
      (laid tag_part (Start 6 40 ∷ Summed full ∷ []) 1 (fives 4) ≡ 5 ∷ 0x280602 ∷ 0x81828384e809 ∷ 5 ∷ [])
      × (laid number_part (Start 6 40 ∷ Summed full ∷ Number 8 ∷ []) 0 (fives 3) ≡ 5 ∷ 5 ∷ 8 ∷ [])
      × (laid value_part (Start 6 40 ∷ Summed full ∷ []) 0 (fives 3) ≡ 5 ∷ 0x0a0b0c0d11121314 ∷ 5 ∷ [])
  pub sums :
      (laid_sums (Start 6 40 ∷ Summed full ∷ Number 8 ∷ []) 0 (fives 9)
      ≡ 5 ∷ 5 ∷ 5 ∷ 0x2122232431323334 ∷ 0x4142434451525354 ∷ 0x6162636471727374 ∷ 5 ∷ 5 ∷ 5 ∷ [])
      × (laid_sums (Summed full ∷ Summed empty ∷ []) 0 (fives 7)
      ≡ 0x2122232431323334 ∷ 0x4142434451525354 ∷ 0x6162636471727374 ∷ 0 ∷ 0 ∷ 0 ∷ 5 ∷ [])
      × (laid_sums (Summed empty ∷ []) 1 (fives 6) ≡ 5 ∷ 5 ∷ 5 ∷ 0 ∷ 0 ∷ 0 ∷ []) × (laid_sums [] 0 (fives 3) ≡ fives 3)
  -- the least of four: three items of the fourth for each event
  pub room :
      (map (λ n. room_in (fives 9) (fives 9) (fives 9) (fives n)) (0 ∷ 2 ∷ 3 ∷ 5 ∷ 6 ∷ 27 ∷ 30 ∷ [])
      ≡ 0 ∷ 0 ∷ 1 ∷ 1 ∷ 2 ∷ 9 ∷ 9 ∷ [])
      × (room_in (fives 2) (fives 9) (fives 9) (fives 30) ≡ 2) × (room_in (fives 9) (fives 2) (fives 9) (fives 30) ≡ 2)
      × (room_in (fives 9) (fives 9) (fives 2) (fives 30) ≡ 2)
