-- The number cursor gone through by calls (RULES, "Views, cursors and the dump").
--     Calls, CallsIn     calls one after the other, each from the cursor that the one before it gave, none refused:
--                        of `cursor::advance` on a
-- block's view v, and of `cursor::advance_in` on block k of a packet s. Their indices: the first cursor, the budgets
-- in
--                        sum, the steps taken in sum, and what they listed, joined
--     CursorLists, CursorListsIn     what they come to
-- Nothing is asked of a call but its contract; each lends a list of its own, out, and leaves out' in it.
use Rattle.std.specs.Prelude.{ℕ, ◌+◌, ◌<◌, ◌≡◌, List, [], ◌++◌, take, Ok}
use Rattle.def_refusals.specs.Answers.{Listed}
use Rattle.def_wire.specs.declared.Reading.TheVariants.{Standard}
use Rattle.def_wire.specs.declared.Rle.{Rle}
use Rattle.def_questions.specs.Questions.{numbers_shown}
use Rattle.def_questions.specs.Packets.{numbers_asked}
use Rattle.def_cursor.specs.declared.Cursor.{Cursor}
use Rattle.def_cursor.specs.declared.Stretch.{Stretch}
use Rattle.def_cursor.specs.Cursor.{start, Stretched, StretchedIn}

pub data Calls (a : Rle) (v : List ℕ) : Cursor → ℕ → ℕ → List ℕ → Type 0 where
  ended : {c : Cursor} → Calls a v c 0 0 []
  called : {c : Cursor} {budget budgets taken : ℕ} {l out out' : List ℕ} {s : Stretch}
      → Stretched a v c budget out (Ok s) out' → Calls a v s.next budgets taken l
      → Calls a v c (budget + budgets) (s.taken + taken) (take s.listed out' ++ l)

pub data CallsIn (s : List ℕ) (k : ℕ) (a : Rle) : Cursor → ℕ → ℕ → List ℕ → Type 0 where
  ended-in : {c : Cursor} → CallsIn s k a c 0 0 []
  called-in : {c : Cursor} {budget budgets taken : ℕ} {l out out' : List ℕ} {t : Stretch}
      → StretchedIn s k a c budget out (Ok t) out' → CallsIn s k a t.next budgets taken l
      → CallsIn s k a c (budget + budgets) (t.taken + taken) (take t.listed out' ++ l)

-- calls from the start on that took fewer steps than their budgets allowed have come to the end: they list, whatever
-- the budgets were, what
-- `numbers::numbers` lists of the same view in the standard reading
abbrev pub CursorLists : Type 0
CursorLists =
    (a : Rle) (v : List ℕ) (budgets taken : ℕ) (l : List ℕ) → Calls a v start budgets taken l → taken < budgets
    → (out out' : List ℕ) (n : ℕ) → Listed (numbers_shown Standard a v) out (Ok n) out' → l ≡ take n out'

-- and so of a packet: what `numbers::numbers_in` lists
abbrev pub CursorListsIn : Type 0
CursorListsIn =
    (s : List ℕ) (k : ℕ) (a : Rle) (budgets taken : ℕ) (l : List ℕ) → CallsIn s k a start budgets taken l
    → taken < budgets
    → (out out' : List ℕ) (n : ℕ) → Listed (numbers_asked Standard s k a) out (Ok n) out' → l ≡ take n out'
