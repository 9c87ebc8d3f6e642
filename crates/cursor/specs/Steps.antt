-- Steps inside one word, at once.
--     places_in     the values of m places of a word, from place q on
--     moved_in      the cursor after m steps in the word w that do not go past it
--     Gone         what a stretch from a legal cursor gives, with room for the budget
--     Advancing    a call's answer and what it leaves, of words in a range: 16, then 11
use Rattle.std.specs.Prelude.{ℕ, ◌+◌, min, ◌≡◌, cond, List, ◌++◌, length, take, drop, ltb}
use Rattle.def_refusals.specs.Answers.{Or}
use Rattle.def_standard.specs.declared.Range.{Range}
use Rattle.def_standard.specs.Chunks.{covers_of, values_in}
use Rattle.def_standard.specs.Range.{circle}
use Rattle.def_cursor.specs.declared.Cursor.{Cursor}
use Rattle.def_cursor.specs.declared.Stretch.{Stretch}
use Rattle.def_cursor.specs.Cursor.{cursor, steps_in, cursor_fault, stretch_of, advance_to, left_to, listed_by}

abbrev pub places_in : ℕ → ℕ → ℕ → List ℕ
places_in w q m = take m (drop q (values_in w))

-- a word that covers none is passed in one step, which moves no position
abbrev pub position_in : ℕ → ℕ → ℕ → ℕ
position_in w m p = min (p + min m (covers_of w)) circle

unfoldable pub moved_in : ℕ → ℕ → Cursor → Cursor
moved_in w m c =
    cond (ltb (c.place + m) (steps_in w)) (cursor c.word (c.place + m) (position_in w m c.position))
    (cursor (c.word + 1) 0 (position_in w m c.position))

pub record Gone (g : Range) (ws : List ℕ) (c : Cursor) (budget : ℕ) (out : List ℕ) (r : Stretch) (out' : List ℕ)
    : Type 0 where
  pub answer : r ≡ stretch_of g ws c budget
  pub filled : out' ≡ listed_by g ws budget c ++ drop (length (listed_by g ws budget c)) out

pub record Advancing (g : Range) (ws : List ℕ) (c : Cursor) (budget : ℕ) (out : List ℕ) (r : Or Stretch) (out' : List ℕ)
    : Type 0 where
  pub answer : r ≡ advance_to (cursor_fault ws c budget (length out)) (stretch_of g ws c budget)
  pub filled : out' ≡ left_to (cursor_fault ws c budget (length out)) (listed_by g ws budget c) out
