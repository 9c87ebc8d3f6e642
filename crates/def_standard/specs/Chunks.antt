-- One chunk word (RFC 3611, 4.1.1 to 4.1.3; RULES, "Packet and blocks").
--     covers_of      how many positions a word covers
--     value_of       its value at a place
--     chunk_of       its kind
--     word_of        the word of a kind, with the faults of a word, 13
--     word_bytes     its two bytes, or 13; making one chunk word is def_refusals' `Listed (word_bytes c)`, so 11 comes
--                   after 13
use Rattle.std.specs.Prelude.{Ok, Err}
use Rattle.std.specs.Prelude.{ℕ, zero, suc, ◌+◌, ◌-◌, ◌/◌, ◌%◌, ◌^◌, cond, List, [], ◌∷◌, map, ltb, leb, eqb}
use Rattle.def_refusals.specs.declared.Refusal.TheVariants.{ValueTooLarge}
use Rattle.def_refusals.specs.Answers.{Or}
use Rattle.def_wire.specs.Bytes.{two}
use Rattle.def_standard.specs.declared.Chunk.{Chunk}
use Rattle.def_standard.specs.declared.Chunk.TheVariants.{Null, Skip, Run, Vector}

-- top bit clear: a run, whose length is the low 14 bits; set: a vector of 15. The word 0 covers none, and so does 16384
abbrev pub covers_of : ℕ → ℕ
covers_of w = cond (ltb w 32768) (w % 16384) 15

-- a run's value is the bit below the top; a vector's place 0 is the bit below the top
abbrev pub value_of : ℕ → ℕ → ℕ
value_of w q = cond (ltb w 32768) (w / 16384 % 2) (w / 2 ^ (14 - q) % 2)

-- n numbers from q on
abbrev pub count_from : ℕ → ℕ → List ℕ
count_from q zero = []
count_from q (suc n) = q ∷ count_from (suc q) n

-- the values at a word's places, in order
unfoldable pub values_in : ℕ → List ℕ
values_in w = map (value_of w) (count_from 0 (covers_of w))

unfoldable pub chunk_of : ℕ → Chunk
chunk_of w =
    cond (eqb w 0) Null
    (cond (ltb w 16384) (Skip w)
    (cond (ltb w 32768) (Run (w - 16384)) (Vector (w - 32768))))

-- the word w, where a value is at most its limit; else 13
abbrev pub within : ℕ → ℕ → ℕ → Or ℕ
within value limit w = cond (leb value limit) (Ok w) (Err (ValueTooLarge value))

-- a run of ones of no length is no word to send: 13 with 0
unfoldable pub word_of : Chunk → Or ℕ
word_of Null = Ok 0
word_of (Skip n) = within n 16383 n
word_of (Run n) = cond (eqb n 0) (Err (ValueTooLarge 0)) (within n 16383 (16384 + n))
word_of (Vector v) = within v 32767 (32768 + v)

abbrev pub bytes_of_made : Or ℕ → Or (List ℕ)
bytes_of_made (Ok w) = Ok (two w)
bytes_of_made (Err x) = Err x

abbrev pub word_bytes : Chunk → Or (List ℕ)
word_bytes c = bytes_of_made (word_of c)
