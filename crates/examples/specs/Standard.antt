-- Facts of def_standard: one chunk word, the range, and the standard reading's lists.
-- RULES, "Packet and blocks", "Standard reading" and "Refusal numbers" (13).
use Rattle.std.specs.Prelude.{ℕ, ◌≡◌, true, false, List, [], ◌∷◌, map, ltb, length, get_or, Ok, Err}
use Rattle.def_refusals.specs.declared.Refusal.TheVariants.{ValueTooLarge, NoRoom}
use Rattle.def_refusals.specs.Answers.{Listed}
use Rattle.def_standard.specs.declared.Chunk.TheVariants.{Null, Skip, Run, Vector}
use Rattle.def_standard.specs.declared.Range.{Range}
use Rattle.def_standard.specs.declared.Receipt.{Receipt}
use Rattle.def_standard.specs.declared.Echo.{Echo}
use Rattle.def_standard.specs.Chunks.{covers_of, value_of, count_from, values_in, chunk_of, word_of, word_bytes}
use Rattle.def_standard.specs.Listing.{list_from}
use Rattle.def_standard.specs.Range.{circle, size_of, ahead_of, range_of, offset_of, inside, number_of}
use Rattle.def_standard.specs.Standard.{values_of, is_listed, numbers_from, numbers_of, receipt, pairs_from, pairs_of}
use Rattle.def_standard.specs.Standard.{echoes_of, standard_words, standard_numbers, standard_pairs, entries_of}
use Rattle.examples.specs.Rows.{rows, fields}

-- a word of each kind, at the bounds: 0, runs of zeros, runs of ones, vectors
abbrev pub words : List ℕ
words = 0 ∷ 1 ∷ 16383 ∷ 16384 ∷ 16385 ∷ 32767 ∷ 32768 ∷ 65535 ∷ []

pub record ChunkWords : Type 0 where
  -- 0 and 16384 cover none, a run its low 14 bits, a vector 15
  pub covers : map covers_of words ≡ 0 ∷ 1 ∷ 16383 ∷ 0 ∷ 1 ∷ 16383 ∷ 15 ∷ 15 ∷ []
  -- a run's value is the bit below the top, at each of its places
  pub run_value : (value_of 3 0 ≡ 0) × (value_of 16383 16382 ≡ 0) × (value_of 16387 0 ≡ 1) × (value_of 16387 2 ≡ 1)
  -- a vector: most significant first, place 0 below the top bit, place 14 the lowest bit
  pub vector-value :
      (map (value_of 49152) (0 ∷ 1 ∷ 14 ∷ []) ≡ 1 ∷ 0 ∷ 0 ∷ [])
      × (map (value_of 32769) (0 ∷ 13 ∷ 14 ∷ []) ≡ 0 ∷ 0 ∷ 1 ∷ [])
      × (map (value_of 40962) (0 ∷ 1 ∷ 2 ∷ 12 ∷ 13 ∷ 14 ∷ []) ≡ 0 ∷ 1 ∷ 0 ∷ 0 ∷ 1 ∷ 0 ∷ [])
  -- past the last place a vector's value stays that of its last
  pub past-the-last : (value_of 32769 15 ≡ 1) × (value_of 32769 16 ≡ 1) × (value_of 65534 15 ≡ 0)
  pub counting : (count_from 3 4 ≡ 3 ∷ 4 ∷ 5 ∷ 6 ∷ []) × (count_from 3 0 ≡ [])
  pub values :
      (values_in 0 ≡ []) × (values_in 2 ≡ 0 ∷ 0 ∷ []) × (values_in 16384 ≡ []) × (values_in 16387 ≡ 1 ∷ 1 ∷ 1 ∷ [])
      × (values_in 0xd001 ≡ 1 ∷ 0 ∷ 1 ∷ 0 ∷ 0 ∷ 0 ∷ 0 ∷ 0 ∷ 0 ∷ 0 ∷ 0 ∷ 0 ∷ 0 ∷ 0 ∷ 1 ∷ [])
  -- the kind, and its number
  pub chunk :
      map chunk_of words
      ≡ Null ∷ Skip 1 ∷ Skip 16383 ∷ Run 0 ∷ Run 1 ∷ Run 16383 ∷ Vector 0 ∷ Vector 32767 ∷ []
  -- the word of a kind, up to the limit; SkipLength(0) is 0
  pub made :
      map word_of (Null ∷ Skip 0 ∷ Skip 1 ∷ Skip 16383 ∷ Run 1 ∷ Run 16383 ∷ Vector 0 ∷ Vector 32767 ∷ [])
      ≡ Ok 0 ∷ Ok 0 ∷ Ok 1 ∷ Ok 16383 ∷ Ok 16385 ∷ Ok 32767 ∷ Ok 32768 ∷ Ok 65535 ∷ []
  -- 13 with the value: one over the limit, and far over
  pub thirteen :
      (word_of (Skip 16384) ≡ Err (ValueTooLarge 16384)) × (word_of (Run 16384) ≡ Err (ValueTooLarge 16384))
      × (word_of (Vector 32768) ≡ Err (ValueTooLarge 32768)) × (word_of (Run 65537) ≡ Err (ValueTooLarge 65537))
  -- 13 with 0: a run of ones of no length, and no other kind's 0
  pub lost-run : map word_of (Run 0 ∷ Skip 0 ∷ Vector 0 ∷ []) ≡ Err (ValueTooLarge 0) ∷ Ok 0 ∷ Ok 32768 ∷ []
  -- two bytes, big-endian
  pub bytes :
      (word_bytes (Run 2) ≡ Ok (0x40 ∷ 2 ∷ [])) × (word_bytes (Run 16384) ≡ Err (ValueTooLarge 16384))
      × (word_bytes (Run 1) ≡ Ok (0x40 ∷ 1 ∷ [])) × (word_bytes (Run 0) ≡ Err (ValueTooLarge 0))
      × (word_bytes (Skip 0) ≡ Ok (0 ∷ 0 ∷ []))
  -- 13 before 11; the room needed is 2
  pub into-a-buffer :
      Listed (word_bytes (Run 2)) (8 ∷ 9 ∷ 10 ∷ []) (Ok 2) (0x40 ∷ 2 ∷ 10 ∷ [])
      × Listed (word_bytes (Run 2)) (8 ∷ []) (Err (NoRoom 2 1)) (8 ∷ [])
      × Listed (word_bytes (Run 16384)) [] (Err (ValueTooLarge 16384)) []
      × Listed (word_bytes (Run 0)) [] (Err (ValueTooLarge 0)) []
      × Listed (word_bytes (Run 0)) (8 ∷ 9 ∷ []) (Err (ValueTooLarge 0)) (8 ∷ 9 ∷ [])

-- a number and its time
abbrev pub pair : ℕ → ℕ → Receipt
pair n t = record { number = n; time = record { 0 = t } }

-- SSRC, last report, delay
abbrev pub echo : ℕ → ℕ → ℕ → Echo
echo s l d = record { ssrc = s; last = record { 0 = l }; delay = record { 0 = d } }

-- begin, size, thinning
abbrev pub range : ℕ → ℕ → ℕ → Range
range b r t = record { begin = b; size = r; thinning = t }

pub record Ranges : Type 0 where
  -- (end − begin) mod 65536, and 65536 where they are equal
  pub size :
      (size_of 10 14 ≡ 4) × (size_of 65534 2 ≡ 4) × (size_of 1 0 ≡ 65535) × (size_of 0 65535 ≡ 65535) × (size_of 0 1 ≡ 1)
      × (size_of 5 5 ≡ 65536) × (size_of 0 0 ≡ 65536)
  -- d: 0 where begin is on the grid, else up to the next number on it, and never down; without thinning always 0
  pub ahead :
      (map (λ b. ahead_of b 2) (0 ∷ 1 ∷ 4 ∷ 5 ∷ 6 ∷ 7 ∷ 8 ∷ 9 ∷ []) ≡ 0 ∷ 3 ∷ 0 ∷ 3 ∷ 2 ∷ 1 ∷ 0 ∷ 3 ∷ [])
      × (map (λ b. ahead_of b 0) (0 ∷ 1 ∷ 5 ∷ 65535 ∷ []) ≡ 0 ∷ 0 ∷ 0 ∷ 0 ∷ [])
      × (map (λ b. ahead_of b 1) (0 ∷ 1 ∷ 2 ∷ 65535 ∷ []) ≡ 0 ∷ 1 ∷ 0 ∷ 1 ∷ [])
  -- by 2^T and not by T: the largest T, and two that no block has
  pub ahead-far :
      (map (λ b. ahead_of b 15) (0 ∷ 1 ∷ 32767 ∷ 32768 ∷ 32769 ∷ 65535 ∷ []) ≡ 0 ∷ 32767 ∷ 1 ∷ 0 ∷ 32767 ∷ 1 ∷ [])
      × (map (λ b. ahead_of b 16) (0 ∷ 1 ∷ 32768 ∷ 65535 ∷ []) ≡ 0 ∷ 65535 ∷ 32768 ∷ 1 ∷ [])
      × (map (λ b. ahead_of b 17) (0 ∷ 1 ∷ 65535 ∷ []) ≡ 0 ∷ 131071 ∷ 65537 ∷ [])
  -- from the first number on the grid, R less d numbers: begin on the grid, and off it; the first number wraps
  pub of_fields :
      (range_of (fields 7 8 20 2) ≡ range 8 12 2) × (range_of (fields 7 5 20 0) ≡ range 5 15 0)
      × (range_of (fields 7 65528 2 3) ≡ range 65528 10 3) × (range_of (fields 7 5 20 2) ≡ range 8 12 2)
      × (range_of (fields 7 65530 2 3) ≡ range 0 2 3) × (range_of (fields 7 65533 10 2) ≡ range 0 10 2)
      × (range_of (fields 7 1 0 15) ≡ range 32768 32768 15)
  -- nothing where end comes first: one before the first number on the grid, on it, and one behind it
  pub end-first :
      map (λ e. range_of (fields 7 5 e 2)) (6 ∷ 7 ∷ 8 ∷ 9 ∷ [])
      ≡ range 8 0 2 ∷ range 8 0 2 ∷ range 8 0 2 ∷ range 8 1 2 ∷ []
  pub end-first-wrapped :
      map (λ e. range_of (fields 7 65533 e 2)) (65535 ∷ 0 ∷ 1 ∷ []) ≡ range 0 0 2 ∷ range 0 0 2 ∷ range 0 1 2 ∷ []
  -- begin = end: the whole circle less d
  pub begin-is-end :
      (range_of (fields 7 5 5 2) ≡ range 8 65533 2) × (range_of (fields 7 8 8 2) ≡ range 8 65536 2)
      × (range_of (fields 7 1 1 15) ≡ range 32768 32769 15) × (range_of (fields 7 65535 65535 15) ≡ range 0 65535 15)
  -- p · 2^T, which does not wrap
  pub offset :
      (offset_of (range 9 1 0) 5 ≡ 5) × (offset_of (range 9 1 3) 5 ≡ 40) × (offset_of (range 9 1 15) 2 ≡ 65536)
      × (offset_of (range 9 1 15) 65536 ≡ 2147483648)
  -- inside: p · 2^T < R, the last position and one past it
  pub is-inside :
      (map (inside (range 9 4 0)) (0 ∷ 3 ∷ 4 ∷ []) ≡ true ∷ true ∷ false ∷ [])
      × (map (inside (range 9 9 3)) (1 ∷ 2 ∷ []) ≡ true ∷ false ∷ [])
      × (map (inside (range 9 8 3)) (0 ∷ 1 ∷ []) ≡ true ∷ false ∷ [])
      × (map (inside (range 0 65536 15)) (1 ∷ 2 ∷ 3 ∷ []) ≡ true ∷ false ∷ false ∷ [])
      × (map (inside (range 0 65536 0)) (65535 ∷ 65536 ∷ []) ≡ true ∷ false ∷ [])
  -- (begin + p · 2^T) mod 65536
  pub number :
      (number_of (range 10 4 0) 3 ≡ 13) × (number_of (range 65534 4 0) 2 ≡ 0) × (number_of (range 65534 64 3) 5 ≡ 38)
      × (number_of (range 1 65536 15) 2 ≡ 1)
  -- of a block's fields: inside where d + p · 2^T < R, with number (begin + d + p · 2^T) mod 65536
  pub on-the-grid :
      (map (inside (range_of (fields 7 5 20 2))) (0 ∷ 1 ∷ 2 ∷ 3 ∷ []) ≡ true ∷ true ∷ true ∷ false ∷ [])
      × (map (inside (range_of (fields 7 5 21 2))) (2 ∷ 3 ∷ 4 ∷ []) ≡ true ∷ true ∷ false ∷ [])
      × (map (number_of (range_of (fields 7 5 21 2))) (0 ∷ 1 ∷ 2 ∷ 3 ∷ []) ≡ 8 ∷ 12 ∷ 16 ∷ 20 ∷ [])
      × (map (number_of (range_of (fields 7 65533 10 2))) (0 ∷ 1 ∷ 2 ∷ []) ≡ 0 ∷ 4 ∷ 8 ∷ [])
      × (map (inside (range_of (fields 7 5 8 2))) (0 ∷ 1 ∷ []) ≡ false ∷ false ∷ [])
      × (map (inside (range_of (fields 7 5 9 2))) (0 ∷ 1 ∷ []) ≡ true ∷ false ∷ [])
  -- round the whole circle: the last position inside, and one past it
  pub round :
      (map (inside (range_of (fields 7 5 5 2))) (16383 ∷ 16384 ∷ []) ≡ true ∷ false ∷ [])
      × (number_of (range_of (fields 7 5 5 2)) 16383 ≡ 4)
      × (map (inside (range_of (fields 7 1 1 15))) (0 ∷ 1 ∷ 2 ∷ []) ≡ true ∷ true ∷ false ∷ [])
      × (map (number_of (range_of (fields 7 1 1 15))) (0 ∷ 1 ∷ []) ≡ 32768 ∷ 0 ∷ [])
  pub all-numbers : circle ≡ 65536

pub record Lists : Type 0 where
  -- items stand at p, p + 1, ..; those that pass are made, in order, and one that fails does not end the list
  pub by-positions : list_from ltb (λ q x. x) 3 (4 ∷ 4 ∷ 9 ∷ []) ≡ 4 ∷ 9 ∷ []
  pub position-made : list_from {A = ℕ} (λ q x. true) (λ q x. q) 3 (0 ∷ 0 ∷ []) ≡ 3 ∷ 4 ∷ []
  -- positions run through the words in order; words that cover none have none
  pub through-the-words : values_of (16386 ∷ 0 ∷ 16384 ∷ 1 ∷ 16385 ∷ []) ≡ 1 ∷ 1 ∷ 0 ∷ 1 ∷ []
  -- value one, and inside
  pub is-listed :
      (is_listed (range 10 2 0) 1 1 ≡ true) × (is_listed (range 10 2 0) 1 0 ≡ false)
      × (is_listed (range 10 2 0) 2 1 ≡ false)
  -- from position p on: example 5's words, and the same words two positions further
  pub from-a-position :
      (numbers_from (range 10 4 0) 0 (16386 ∷ 1 ∷ 16387 ∷ []) ≡ 10 ∷ 11 ∷ 13 ∷ [])
      × (numbers_from (range 10 4 0) 2 (16386 ∷ 1 ∷ 16387 ∷ []) ≡ 12 ∷ 13 ∷ [])
  pub from-the-start : numbers_of (range 10 4 0) (16386 ∷ 1 ∷ 16387 ∷ []) ≡ 10 ∷ 11 ∷ 13 ∷ []
  -- T: every 2^T is reported, and numbers wrap
  pub thinned :
      (numbers_of (range 65532 9 2) (16389 ∷ []) ≡ 65532 ∷ 0 ∷ 4 ∷ [])
      × (numbers_of (range 0 65536 15) (16387 ∷ []) ≡ 0 ∷ 32768 ∷ [])
      × (numbers_of (range 7 1 15) (16387 ∷ []) ≡ 7 ∷ [])
  -- the whole circle by 4096: 16 positions are inside, and position 16, again number 5, is not
  pub whole-circle :
      (length (numbers_of (range 5 65536 12) (16401 ∷ [])) ≡ 16)
      × (get_or (numbers_of (range 5 65536 12) (16401 ∷ [])) 15 0 ≡ 61445)
  pub a-receipt : receipt 5 100 ≡ pair 5 100
  -- time p belongs to position p, and is listed where that is inside
  pub pairs :
      (pairs_of (range 5 2 0) (100 ∷ 200 ∷ 300 ∷ []) ≡ pair 5 100 ∷ pair 6 200 ∷ [])
      × (pairs_of (range 5 9 0) (100 ∷ 200 ∷ []) ≡ pair 5 100 ∷ pair 6 200 ∷ [])
      × (pairs_of (range 65534 5 2) (100 ∷ 200 ∷ 300 ∷ []) ≡ pair 65534 100 ∷ pair 2 200 ∷ [])
      × (pairs_from (range 5 3 0) 2 (100 ∷ 200 ∷ []) ≡ pair 7 100 ∷ [])
  -- SSRC, last report, delay; whole entries only
  pub echoes :
      (echoes_of (1 ∷ 2 ∷ 3 ∷ 4 ∷ 5 ∷ 6 ∷ []) ≡ echo 1 2 3 ∷ echo 4 5 6 ∷ [])
      × (echoes_of (1 ∷ 2 ∷ 3 ∷ 4 ∷ []) ≡ echo 1 2 3 ∷ []) × (echoes_of (1 ∷ 2 ∷ 3 ∷ 4 ∷ 5 ∷ []) ≡ echo 1 2 3 ∷ [])
      × (echoes_of (1 ∷ 2 ∷ []) ≡ []) × (echoes_of (1 ∷ []) ≡ []) × (echoes_of [] ≡ [])

-- a block's own bytes
pub record OfABlock : Type 0 where
  -- all words count, the last too; from byte 12 on; none where L is 12
  pub chunk-words :
      (standard_words (rows (0x01000004 ∷ 7 ∷ 0x000a000e ∷ 0x40020000 ∷ 0x00014003 ∷ [])) ≡ 16386 ∷ 0 ∷ 1 ∷ 16387 ∷ [])
      × (standard_words (rows (0x01000002 ∷ 7 ∷ 0x000a000e ∷ [])) ≡ [])
  pub numbers : standard_numbers (rows (0x01010003 ∷ 7 ∷ 0x000a0010 ∷ 0x40024002 ∷ [])) ≡ 10 ∷ 12 ∷ 14 ∷ []
  pub none : standard_numbers (rows (0x01000002 ∷ 7 ∷ 0x000a000e ∷ [])) ≡ []
  pub times : standard_pairs (rows (0x03010004 ∷ 7 ∷ 0x00050009 ∷ 100 ∷ 200 ∷ [])) ≡ pair 6 100 ∷ pair 8 200 ∷ []
  -- from 5 by fours: 8, 12, 16, and no more before 20, one more before 21; past 65535; where end comes first nothing
  pub off-the-grid :
      (standard_numbers (rows (0x01020003 ∷ 7 ∷ 0x00050014 ∷ 0x40040000 ∷ [])) ≡ 8 ∷ 12 ∷ 16 ∷ [])
      × (standard_numbers (rows (0x01020003 ∷ 7 ∷ 0x00050015 ∷ 0x40024003 ∷ [])) ≡ 8 ∷ 12 ∷ 16 ∷ 20 ∷ [])
      × (standard_numbers (rows (0x02020003 ∷ 7 ∷ 0x00050014 ∷ 0xd0010000 ∷ [])) ≡ 8 ∷ 16 ∷ [])
      × (standard_numbers (rows (0x01020003 ∷ 7 ∷ 0xfffd000a ∷ 0x40040000 ∷ [])) ≡ 0 ∷ 4 ∷ 8 ∷ [])
      × (standard_numbers (rows (0x01020003 ∷ 7 ∷ 0x00050008 ∷ 0x40040000 ∷ [])) ≡ [])
      × (standard_numbers (rows (0x01020003 ∷ 7 ∷ 0x00050009 ∷ 0x40040000 ∷ [])) ≡ 8 ∷ [])
  pub times-off-the-grid :
      (standard_pairs (rows (0x03020006 ∷ 7 ∷ 0x00050014 ∷ 100 ∷ 200 ∷ 300 ∷ 400 ∷ []))
      ≡ pair 8 100 ∷ pair 12 200 ∷ pair 16 300 ∷ [])
      × (standard_pairs (rows (0x03020004 ∷ 7 ∷ 0xfffd000a ∷ 100 ∷ 200 ∷ [])) ≡ pair 0 100 ∷ pair 4 200 ∷ [])
      × (standard_pairs (rows (0x03020003 ∷ 7 ∷ 0x00050008 ∷ 100 ∷ [])) ≡ [])
      × (standard_pairs (rows (0x03020004 ∷ 7 ∷ 0x00050009 ∷ 100 ∷ 200 ∷ [])) ≡ pair 8 100 ∷ [])
  pub entries :
      (entries_of (rows (0x05000006 ∷ 1 ∷ 2 ∷ 3 ∷ 4 ∷ 5 ∷ 6 ∷ [])) ≡ echo 1 2 3 ∷ echo 4 5 6 ∷ [])
      × (entries_of (rows (0x05000000 ∷ [])) ≡ [])
