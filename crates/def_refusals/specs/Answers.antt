-- What a call that lists into lent memory answers, and what it leaves there (RULES, "Refusal numbers").
--     Or A                what is shown, or why it is refused
--     answer_of            the count of what is listed, or the refusal; 11 where the room is short
--     filled_of            what the lent list then holds
--     Listed              a listing call's contract: both, as equations
use Rattle.std.specs.Prelude.{ℕ, cond, ◌≡◌, List, ◌++◌, map, length, drop, leb, Result, Ok, Err}
use Rattle.def_refusals.specs.declared.Refusal.{Refusal}
use Rattle.def_refusals.specs.declared.Refusal.TheVariants.{NoRoom}

-- what is shown, or why it is refused
abbrev pub Or : Type 0 → Type 0
Or A = Result A Refusal

-- the next question, asked only where the one before was not refused
abbrev pub on_shown : {A B : Type 0} → Or A → (A → Or B) → Or B
on_shown (Ok a) f = f a
on_shown (Err x) f = Err x

abbrev pub on_done : {A : Type 0} → Or ℕ → (ℕ → Or A) → Or A
on_done (Ok n) f = f n
on_done (Err x) f = Err x

abbrev pub on_fine : {A : Type 0} → Or (Unit {0}) → Or A → Or A
on_fine (Ok _) a = a
on_fine (Err x) a = Err x

-- the next check, asked only where the one before it was fine
abbrev pub then_check : Or (Unit {0}) → Or (Unit {0}) → Or (Unit {0})
then_check (Ok _) next = next
then_check (Err x) next = Err x

-- each item's part, as where lent lists stand side by side
abbrev pub each : {A : Type 0} → (A → ℕ) → Or (List A) → Or (List ℕ)
each f (Ok l) = Ok (map f l)
each f (Err x) = Err x

-- how many are listed, or the refusal; 11 with the room needed and the room lent, where that is less
unfoldable pub answer_of : {A : Type 0} → Or (List A) → ℕ → Or ℕ
answer_of (Ok l) room = cond (leb (length l) room) (Ok (length l)) (Err (NoRoom (length l) room))
answer_of (Err x) room = Err x

-- the items and behind them the old contents, or the old contents alone where the call is refused
unfoldable pub filled_of : Or (List ℕ) → ℕ → List ℕ → List ℕ
filled_of (Ok l) room out = cond (leb (length l) room) (l ++ drop (length l) out) out
filled_of (Err x) room out = out

-- the contract of a call that lists into one lent list
pub record Listed (whole : Or (List ℕ)) (out : List ℕ) (r : Or ℕ) (out' : List ℕ) : Type 0 where
  pub answer : r ≡ answer_of whole (length out)
  pub filled : out' ≡ filled_of whole (length out) out
