-- Chunk words from heard marks (RFC 3611, 4.1.1 and 4.1.2; RULES, "Chunk words from marks"). A mark stands for a
-- position: 1 heard, 0 not.
--     word_for       the next word: a run, or a vector of 15
--     taken_by       how many marks it stands for
--     words_of       the words of all the marks
--     marks_asked    these words, or 14 and 17 in that order; making them into a lent list is def_refusals'
--                   `Listed (marks_asked ms)`, so 11 comes last
use Rattle.std.specs.Prelude.{Ok, Err}
use Rattle.std.specs.Prelude.{ℕ, zero, suc, ◌+◌, ◌*◌, ◌^◌, Bool, cond, List, [], ◌∷◌, length, get_or, drop, ltb, leb, eqb}
use Rattle.def_refusals.specs.declared.Refusal.TheVariants.{TooMany, BadMark}
use Rattle.def_refusals.specs.Answers.{Or, on_fine, then_check}

-- the shortest run that is made, the longest, and the most marks
abbrev pub shortest_run : ℕ
shortest_run = 15

abbrev pub longest_run : ℕ
longest_run = 16383

abbrev pub max_marks : ℕ
max_marks = 65536

-- how many marks, from the first on, are m
unfoldable pub run_of : ℕ → List ℕ → ℕ
run_of m [] = 0
run_of m (x ∷ xs) = cond (eqb x m) (suc (run_of m xs)) 0

-- k marks as the bits of a number, the first mark the highest; a place past the end is zero
unfoldable pub bits_of : ℕ → List ℕ → ℕ
bits_of zero ms = 0
bits_of (suc k) [] = 0
bits_of (suc k) (m ∷ ms) = m * 2 ^ k + bits_of k ms

-- the first mark, and how many follow it that are equal, itself counted
abbrev pub first_mark : List ℕ → ℕ
first_mark ms = get_or ms 0 0

abbrev pub ahead : List ℕ → ℕ
ahead ms = run_of (first_mark ms) ms

-- 15 or more equal marks are a run, as long as it can be; fewer, and the next 15 marks are a vector
abbrev pub is_run : List ℕ → Bool
is_run ms = leb shortest_run (ahead ms)

abbrev pub run_length : List ℕ → ℕ
run_length ms = cond (leb (ahead ms) longest_run) (ahead ms) longest_run

unfoldable pub word_for : List ℕ → ℕ
word_for ms = cond (is_run ms) (first_mark ms * 16384 + run_length ms) (32768 + bits_of 15 ms)

unfoldable pub taken_by : List ℕ → ℕ
taken_by ms = cond (is_run ms) (run_length ms) 15

-- a word takes one mark or more, so fuel of the marks' number is enough
unfoldable pub words_from : ℕ → List ℕ → List ℕ
words_from zero ms = []
words_from (suc fuel) [] = []
words_from (suc fuel) (m ∷ ms) = word_for (m ∷ ms) ∷ words_from fuel (drop (taken_by (m ∷ ms)) (m ∷ ms))

abbrev pub words_of : List ℕ → List ℕ
words_of ms = words_from (length ms) ms

-- 14 of so many marks
abbrev pub count_fault : ℕ → Or (Unit {0})
count_fault n = cond (ltb max_marks n) (Err (TooMany n max_marks)) (Ok tt)

-- 17 with the index of the first mark that is neither 0 nor 1, from index i on
unfoldable pub bad_from : ℕ → List ℕ → Or (Unit {0})
bad_from i [] = Ok tt
bad_from i (m ∷ ms) = cond (leb m 1) (bad_from (suc i) ms) (Err (BadMark i))

-- the order of the refusals: 14, 17
unfoldable pub marks_fault : List ℕ → Or (Unit {0})
marks_fault ms = then_check (count_fault (length ms)) (bad_from 0 ms)

-- the words, or why the marks are refused
unfoldable pub marks_asked : List ℕ → Or (List ℕ)
marks_asked ms = on_fine (marks_fault ms) (Ok (words_of ms))
