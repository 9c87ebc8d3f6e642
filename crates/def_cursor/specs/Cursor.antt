-- The standard number cursor: one step, the steps left, a stretch of k steps and what it lists (RULES, "Views,
-- cursors and the dump").
--     legal          a cursor that names a place of the words, or their end
--     step_of         the cursor after one step
--     taken_by, after_steps, listed_by     the steps taken, the cursor and the numbers of a stretch of at most k steps
--     advance_of      a call's answer: 16, then 11 by the budget
use Rattle.std.specs.Prelude.{Ok, Err}
use Rattle.std.specs.Prelude.{ℕ, zero, suc, ◌+◌, ◌-◌, min, ◌≡◌, Bool, false, cond, List, [], ◌∷◌, ◌++◌, length, get_or, drop, ltb, leb, eqb}
use Rattle.def_refusals.specs.declared.Refusal.TheVariants.{NoPlace, NoRoom}
use Rattle.def_refusals.specs.Answers.{Or, then_check}
use Rattle.def_wire.specs.declared.Reading.TheVariants.{Standard}
use Rattle.def_wire.specs.Packet.{view_of}
use Rattle.def_wire.specs.declared.Rle.{Rle}
use Rattle.def_wire.specs.declared.Ranged.TheVariants.{Chunks}
use Rattle.def_wire.specs.declared.Kind.TheVariants.{Spans}
use Rattle.def_wire.specs.Block.{fields_at, rle_of, check_of}
use Rattle.def_standard.specs.declared.Range.{Range}
use Rattle.def_standard.specs.Chunks.{covers_of, value_of}
use Rattle.def_standard.specs.Range.{circle, range_of, number_of}
use Rattle.def_standard.specs.Standard.{is_listed, standard_words}
use Rattle.def_questions.specs.ByNumber.{on_rle, not_served}
use Rattle.def_cursor.specs.declared.Cursor.{Cursor}
use Rattle.def_cursor.specs.declared.Stretch.{Stretch}

abbrev pub cursor : ℕ → ℕ → ℕ → Cursor
cursor i q p = record { word = i; place = q; position = p }

abbrev pub start : Cursor
start = cursor 0 0 0

-- how many steps a word takes: one for each place, and one to pass a word that covers none
abbrev pub steps_in : ℕ → ℕ
steps_in w = cond (eqb (covers_of w) 0) 1 (covers_of w)

-- the word at hand
abbrev pub word_at : List ℕ → Cursor → ℕ
word_at ws c = get_or ws c.word 0

-- a place of a word (a word covering none has place 0 only), or the end: the word count and place 0; with a position
-- of at most 65,536
unfoldable pub legal : List ℕ → Cursor → Bool
legal ws c =
    cond (ltb circle c.position) false
    (cond (ltb c.word (length ws)) (ltb c.place (steps_in (word_at ws c)))
    (cond (eqb c.word (length ws)) (eqb c.place 0) false))

-- the position stops at 65,536
abbrev pub next_position : ℕ → ℕ
next_position p = min (p + 1) circle

-- one step in the word w: past the word where it covers none; else one place on, and after the last place the next
-- word's place 0
unfoldable pub step_of : ℕ → Cursor → Cursor
step_of w c =
    cond (eqb (covers_of w) 0) (cursor (c.word + 1) 0 c.position)
    (cond (ltb (c.place + 1) (covers_of w)) (cursor c.word (c.place + 1) (next_position c.position))
    (cursor (c.word + 1) 0 (next_position c.position)))

-- what the step lists: the position's number, where the place has value one and the position is inside
unfoldable pub listed_at : Range → ℕ → Cursor → List ℕ
listed_at g w c =
    cond (eqb (covers_of w) 0) []
    (cond (is_listed g c.position (value_of w c.place)) (number_of g c.position ∷ []) [])

-- at most k steps, no more than there are: how many, to where, and what they list
unfoldable pub taken_by : List ℕ → ℕ → Cursor → ℕ
taken_by ws zero c = 0
taken_by ws (suc k) c = cond (ltb c.word (length ws)) (suc (taken_by ws k (step_of (word_at ws c) c))) 0

unfoldable pub after_steps : List ℕ → ℕ → Cursor → Cursor
after_steps ws zero c = c
after_steps ws (suc k) c = cond (ltb c.word (length ws)) (after_steps ws k (step_of (word_at ws c) c)) c

unfoldable pub listed_by : Range → List ℕ → ℕ → Cursor → List ℕ
listed_by g ws zero c = []
listed_by g ws (suc k) c = cond (ltb c.word (length ws))
    (listed_at g (word_at ws c) c ++ listed_by g ws k (step_of (word_at ws c) c)) []

-- the steps left from a place of the first word on
unfoldable pub steps_left : List ℕ → ℕ → ℕ
steps_left [] q = 0
steps_left (w ∷ ws) q = (steps_in w - q) + steps_left ws 0

-- 16, for budget 0 too; then 11, by the budget
abbrev pub cursor_fault : List ℕ → Cursor → ℕ → ℕ → Or (Unit {0})
cursor_fault ws c budget room =
    cond (legal ws c) (cond (leb budget room) (Ok tt) (Err (NoRoom budget room))) (Err NoPlace)

abbrev pub stretch_of : Range → List ℕ → Cursor → ℕ → Stretch
stretch_of g ws c budget = record {
  next = after_steps ws budget c;
  taken = taken_by ws budget c;
  listed = length
      (listed_by g ws budget c);
}

-- a call's answer, and what the lent list then holds, of words in a range
abbrev pub advance_to : Or (Unit {0}) → Stretch → Or Stretch
advance_to (Ok _) t = Ok t
advance_to (Err x) t = Err x

abbrev pub left_to : Or (Unit {0}) → List ℕ → List ℕ → List ℕ
left_to (Ok _) l out = l ++ drop (length l) out
left_to (Err x) l out = out

-- the order of a cursor's refusals, of a block's view: 10, 7, then 16 and 11
unfoldable pub advance_fault : Rle → List ℕ → Cursor → ℕ → ℕ → Or (Unit {0})
advance_fault a v c budget room = then_check (check_of Standard (Spans (Chunks a)) v)
    (cursor_fault (standard_words v) c budget room)

-- a call's answer of a block's view v, asked as type 1 or 2
unfoldable pub advance_of : Rle → List ℕ → Cursor → ℕ → ℕ → Or Stretch
advance_of a v c budget room =
    advance_to (advance_fault a v c budget room) (stretch_of (range_of (fields_at v)) (standard_words v) c budget)

-- what the lent list then holds
unfoldable pub stretch_filled : Rle → List ℕ → Cursor → ℕ → List ℕ → List ℕ
stretch_filled a v c budget out =
    left_to (advance_fault a v c budget (length out)) (listed_by (range_of (fields_at v)) (standard_words v) budget c) out

-- the contract of a cursor's call on a block's view
pub record Stretched (a : Rle) (v : List ℕ) (c : Cursor) (budget : ℕ) (out : List ℕ) (r : Or Stretch) (out' : List ℕ)
    : Type 0 where
  pub answer : r ≡ advance_of a v c budget (length out)
  pub filled : out' ≡ stretch_filled a v c budget out

-- the same of a packet s and a block's index k: 1 to 6 and 9 first
abbrev pub on_view_advanced : Or (List ℕ) → (List ℕ → Or Stretch) → Or Stretch
on_view_advanced (Ok v) f = f v
on_view_advanced (Err x) f = Err x

abbrev pub on_view_filled : Or (List ℕ) → (List ℕ → List ℕ) → List ℕ → List ℕ
on_view_filled (Ok v) f out = f v
on_view_filled (Err x) f out = out

pub record StretchedIn (s : List ℕ) (k : ℕ) (a : Rle) (c : Cursor) (budget : ℕ) (out : List ℕ) (r : Or Stretch)
    (out' : List ℕ)
    : Type 0 where
  pub answer : r ≡ on_view_advanced (view_of Standard s k) (λ v. advance_of a v c budget (length out))
  pub filled : out' ≡ on_view_filled (view_of Standard s k) (λ v. stretch_filled a v c budget out) out

-- the same with the asked type by a number: one that is neither 1 nor 2 is 10 with the block's own type
abbrev pub advance_by : ℕ → List ℕ → Cursor → ℕ → ℕ → Or Stretch
advance_by t v c budget room = on_rle (rle_of t) (λ a. advance_of a v c budget room) (Err (not_served v))

abbrev pub filled_by : ℕ → List ℕ → Cursor → ℕ → List ℕ → List ℕ
filled_by t v c budget out = on_rle (rle_of t) (λ a. stretch_filled a v c budget out) out

pub record StretchedBy (s : List ℕ) (k t : ℕ) (c : Cursor) (budget : ℕ) (out : List ℕ) (r : Or Stretch) (out' : List ℕ)
    : Type 0 where
  pub answer : r ≡ on_view_advanced (view_of Standard s k) (λ v. advance_by t v c budget (length out))
  pub filled : out' ≡ on_view_filled (view_of Standard s k) (λ v. filled_by t v c budget out) out
