-- Facts of def_crate: `xr_offset_sequence`, the start that moves, the crate reading's lists. RULES, "Crate reading".
use Rattle.std.specs.Prelude.{ℕ, ◌≡◌, true, false, [], ◌∷◌, map, ltb, Some, None}
use Rattle.def_crate.specs.Sequence.{doubled_of, sequence_of, passes, offset_sequence, moved_by}
use Rattle.def_crate.specs.Crate.{while_from, Try, ones_in, try_at, tries_from, crate_numbers_from, crate_pairs_from}
use Rattle.def_crate.specs.Crate.{crate_words, crate_numbers, crate_pairs}
use Rattle.examples.specs.Rows.{fields, rows}
use Rattle.examples.specs.Standard.{pair}

pub record Sequence : Type 0 where
  -- the product by 2^T wraps at 65536
  pub doubled : (doubled_of 5 0 ≡ 5) × (doubled_of 5 3 ≡ 40) × (doubled_of 3 15 ≡ 32768) × (doubled_of 2 15 ≡ 0)
  -- q · 2^T + start wraps
  pub sequence :
      (sequence_of 3 10 0 ≡ 13) × (sequence_of 3 10 2 ≡ 22) × (sequence_of 2 65534 0 ≡ 0) × (sequence_of 1 32768 15 ≡ 0)
      × (sequence_of 2 9 15 ≡ 9)
  -- start < end: it fails from end on; a number before the start passes
  pub end-after-start :
      map (passes 10 14) (10 ∷ 13 ∷ 14 ∷ 65535 ∷ 9 ∷ 0 ∷ []) ≡ true ∷ true ∷ false ∷ false ∷ true ∷ true ∷ []
  -- end ≤ start: it fails from end to before start
  pub end-before-start :
      map (passes 65534 2) (65534 ∷ 65535 ∷ 0 ∷ 1 ∷ 2 ∷ 65533 ∷ [])
      ≡ true ∷ true ∷ true ∷ true ∷ false ∷ false ∷ []
  -- end = start: nothing fails
  pub end-at-start : map (passes 5 5) (5 ∷ 4 ∷ 6 ∷ 0 ∷ []) ≡ true ∷ true ∷ true ∷ true ∷ []
  -- the number where it passes: 10 to 14 by twos, and one past
  pub offset :
      (offset_sequence 1 10 14 1 ≡ Some 12) × (offset_sequence 2 10 14 1 ≡ None)
      × (offset_sequence 3 65534 2 0 ≡ Some 1)
      × (offset_sequence 4 65534 2 0 ≡ None)
  -- after covered positions the start grows by 2^T times as many, wrapping
  pub moved :
      (moved_by 3 0 10 ≡ 13) × (moved_by 3 2 10 ≡ 22) × (moved_by 0 4 10 ≡ 10) × (moved_by 3 0 65534 ≡ 1)
      × (moved_by 3 15 40000 ≡ 7232)

abbrev pub trial : ℕ → ℕ → Try
trial n s = record { number = n; start = s }

pub record CrateLists : Type 0 where
  -- items at p, p + 1, .. up to the first that fails; what follows it is not listed
  pub up-to-a-failure : while_from ltb (λ q x. x) 3 (4 ∷ 5 ∷ 5 ∷ 9 ∷ []) ≡ 4 ∷ 5 ∷ []
  pub position-made : while_from {A = ℕ} (λ q x. true) (λ q x. q) 3 (0 ∷ 0 ∷ []) ≡ 3 ∷ 4 ∷ []
  -- the places of value one
  pub ones : (ones_in 16387 ≡ 0 ∷ 1 ∷ 2 ∷ []) × (ones_in 3 ≡ []) × (ones_in 0xd001 ≡ 0 ∷ 2 ∷ 14 ∷ []) × (ones_in 0 ≡ [])
  pub a-try : try_at 2 10 3 ≡ trial 22 10
  -- each word's places from that word's own start; words of zeros move it too, and words covering none do not
  pub tries :
      tries_from 0 10 (16385 ∷ 2 ∷ 0 ∷ 16384 ∷ 16386 ∷ []) ≡ trial 10 10 ∷ trial 13 13 ∷ trial 14 13 ∷ []
  pub thinned-tries : tries_from 2 65530 (16386 ∷ 0x8001 ∷ 16385 ∷ [])
      ≡ trial 65530 65530 ∷ trial 65534 65530 ∷ trial 58 2 ∷ trial 62 62 ∷ []
  -- tested from the moved start: example 5, where that start has passed the end
  pub moved-start : crate_numbers_from 12 0 10 (16386 ∷ 16387 ∷ 16385 ∷ []) ≡ 10 ∷ 11 ∷ 12 ∷ 13 ∷ 14 ∷ 15 ∷ []
  -- the first that fails ends the list, also for the words behind it
  pub first-failure :
      (crate_numbers_from 12 0 10 (16387 ∷ 16385 ∷ []) ≡ 10 ∷ 11 ∷ [])
      × (crate_numbers_from 12 0 10 (0x9000 ∷ 16385 ∷ []) ≡ [])
  -- places of value zero are not tested: position 2 is outside, and a zero
  pub zeros-untested : crate_numbers_from 12 0 10 (2 ∷ 16385 ∷ []) ≡ 12 ∷ []
  -- numbers repeat: example 6
  pub repeated : crate_numbers_from 0 15 0 (16387 ∷ []) ≡ 0 ∷ 32768 ∷ 0 ∷ []
  -- times are tried from begin; the first failure ends the list, also where a later position would pass
  pub times :
      (crate_pairs_from (fields 7 5 7 0) 0 (100 ∷ 200 ∷ 300 ∷ []) ≡ pair 5 100 ∷ pair 6 200 ∷ [])
      × (crate_pairs_from (fields 7 0 1 15) 0 (100 ∷ 200 ∷ 300 ∷ []) ≡ pair 0 100 ∷ [])
      × (crate_pairs_from (fields 7 5 7 0) 1 (200 ∷ 300 ∷ []) ≡ pair 6 200 ∷ [])
      × (crate_pairs_from (fields 7 65534 5 2) 0 (100 ∷ 200 ∷ 300 ∷ []) ≡ pair 65534 100 ∷ pair 2 200 ∷ [])
      × (crate_pairs_from (fields 7 0 0 15) 0 (100 ∷ 200 ∷ 300 ∷ []) ≡ pair 0 100 ∷ pair 32768 200 ∷ pair 0 300 ∷ [])

-- of everything left from a block on
pub record OfWhatIsLeft : Type 0 where
  -- the words of the block but its last: none of L 12, one of L 16, three of L 20; nothing behind the block
  pub words :
      (crate_words (rows (0x01000002 ∷ 7 ∷ 0x000a000e ∷ 0x40024003 ∷ [])) ≡ [])
      × (crate_words (rows (0x01000003 ∷ 7 ∷ 0x000a000e ∷ 0x40024003 ∷ 0x40044005 ∷ [])) ≡ 16386 ∷ [])
      × (crate_words (rows (0x01000004 ∷ 7 ∷ 0x000a000e ∷ 0x40024003 ∷ 0x40044005 ∷ [])) ≡ 16386 ∷ 16387 ∷ 16388 ∷ [])
  -- end, thinning and begin each from its own field
  pub numbers :
      (crate_numbers (rows (0x01010003 ∷ 7 ∷ 0x000a0010 ∷ 0x40034001 ∷ [])) ≡ 10 ∷ 12 ∷ 14 ∷ [])
      × (crate_numbers (rows (0x01010003 ∷ 7 ∷ 0x000a000e ∷ 0x40034001 ∷ [])) ≡ 10 ∷ 12 ∷ [])
      × (crate_numbers (rows (0x01000002 ∷ 7 ∷ 0x000a000e ∷ 0x40024003 ∷ [])) ≡ [])
  -- times up to the packet's end, whatever L is; none where less than 16 bytes are left
  pub times :
      (crate_pairs (rows (0x03000003 ∷ 7 ∷ 0x00050009 ∷ 100 ∷ 200 ∷ [])) ≡ pair 5 100 ∷ pair 6 200 ∷ [])
      × (crate_pairs (rows (0x03000000 ∷ 7 ∷ 0x00050009 ∷ 100 ∷ [])) ≡ pair 5 100 ∷ [])
      × (crate_pairs (rows (0x03000000 ∷ 7 ∷ 0x00050009 ∷ [])) ≡ []) × (crate_pairs (rows (0x03000000 ∷ [])) ≡ [])
  -- it counts from begin, on the grid or off it: from 5 to 20 and to 8 by fours
  pub off-the-grid :
      (crate_numbers (rows (0x01020003 ∷ 7 ∷ 0x00050014 ∷ 0x40040000 ∷ [])) ≡ 5 ∷ 9 ∷ 13 ∷ 17 ∷ [])
      × (crate_numbers (rows (0x01020003 ∷ 7 ∷ 0x00050008 ∷ 0x40040000 ∷ [])) ≡ 5 ∷ [])
      × (crate_numbers (rows (0x01020003 ∷ 7 ∷ 0xfffd000a ∷ 0x40040000 ∷ [])) ≡ 65533 ∷ 1 ∷ 5 ∷ 9 ∷ [])
      × (crate_pairs (rows (0x03020004 ∷ 7 ∷ 0x00050014 ∷ 100 ∷ 200 ∷ [])) ≡ pair 5 100 ∷ pair 9 200 ∷ [])
      × (crate_pairs (rows (0x03020003 ∷ 7 ∷ 0x00050008 ∷ 100 ∷ [])) ≡ pair 5 100 ∷ [])
