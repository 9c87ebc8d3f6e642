-- The standard reading's lists, each of the block's own L bytes v (RFC 3611, 4.1 to 4.5; RULES, "Standard
-- reading").
use Rattle.std.specs.Prelude.{ℕ, Bool, ◌&&◌, List, [], ◌∷◌, ◌++◌, drop, eqb}
use Rattle.def_wire.specs.Bytes.{words32}
use Rattle.def_wire.specs.Block.{fields_at, words_at}
use Rattle.def_standard.specs.declared.Range.{Range}
use Rattle.def_standard.specs.declared.Receipt.{Receipt}
use Rattle.def_standard.specs.declared.Echo.{Echo}
use Rattle.def_standard.specs.Chunks.{values_in}
use Rattle.def_standard.specs.Listing.{list_from}
use Rattle.def_standard.specs.Range.{range_of, inside, number_of}

-- the values at all positions, from position 0 on, through the words in order
unfoldable pub values_of : List ℕ → List ℕ
values_of [] = []
values_of (w ∷ ws) = values_in w ++ values_of ws

-- a position is listed where its value is one and it is inside
abbrev pub is_listed : Range → ℕ → ℕ → Bool
is_listed g p value = eqb value 1 && inside g p

-- the numbers of words whose first position is p
unfoldable pub numbers_from : Range → ℕ → List ℕ → List ℕ
numbers_from g p ws = list_from (is_listed g) (λ q value. number_of g q) p (values_of ws)

abbrev pub numbers_of : Range → List ℕ → List ℕ
numbers_of g ws = numbers_from g 0 ws

-- a position's number and its time
abbrev pub receipt : ℕ → ℕ → Receipt
receipt number time = record { number = number; time = record { 0 = time } }

-- the pairs of times whose first position is p: time p belongs to position p, and is listed where that is inside
unfoldable pub pairs_from : Range → ℕ → List ℕ → List Receipt
pairs_from g p times = list_from (λ q time. inside g q) (λ q time. receipt (number_of g q) time) p times

abbrev pub pairs_of : Range → List ℕ → List Receipt
pairs_of g times = pairs_from g 0 times

-- three 32-bit numbers each: SSRC, last report, delay
unfoldable pub echoes_of : List ℕ → List Echo
echoes_of [] = []
echoes_of (s ∷ []) = []
echoes_of (s ∷ l ∷ []) = []
echoes_of (s ∷ l ∷ d ∷ rest) = record { ssrc = s; last = record { 0 = l }; delay = record { 0 = d } } ∷ echoes_of rest

-- a block's chunk words and its times stand from byte 12 on; its entries from byte 4 on
abbrev pub standard_words : List ℕ → List ℕ
standard_words v = words_at v

abbrev pub standard_numbers : List ℕ → List ℕ
standard_numbers v = numbers_of (range_of (fields_at v)) (standard_words v)

abbrev pub standard_pairs : List ℕ → List Receipt
standard_pairs v = pairs_of (range_of (fields_at v)) (words32 (drop 12 v))

abbrev pub entries_of : List ℕ → List Echo
entries_of v = echoes_of (words32 (drop 4 v))
