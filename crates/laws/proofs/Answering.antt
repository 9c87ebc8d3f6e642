-- The ways in which a listing call ends. `whole` is what is asked, and an equation says what it comes to.
use Rattle.std.specs.Prelude.{Ok, Err}
use Prim.Native.Nat.{ℕ, ◌≤◌, ◌<◌}
use mathlib.Core.Path.{◌≡◌}
use mathlib.Core.List.{List, ◌++◌}
use native.Mathlib.Omega.{arith}
use lib.ListN.{length, drop}
use borrow.Author.Tests.{le-leb, lt-leb}
use Rattle.def_refusals.specs.declared.Refusal.{Refusal}
use Rattle.def_refusals.specs.declared.Refusal.TheVariants.{NoRoom}
use Rattle.def_refusals.specs.Answers.{Or, answer_of, filled_of, Listed}
use Rattle.laws.specs.Stores.{Filled}

-- the answer alone, for any element type and any room
module _ {A : Type 0} (whole : Or (List A)) (room : ℕ) where
  pub answer-listed : (l : List A) (n : ℕ) → whole ≡ Ok l → n ≡ length l → length l ≤ room
      → Ok n ≡ answer_of whole room
  unfolding answer_of
  answer-listed l n w e h = rw (w, e, le-leb _ _ h)

  pub answer-full : (l : List A) (n : ℕ) → whole ≡ Ok l → n ≡ length l → room < n
      → Err (NoRoom n room) ≡ answer_of whole room
  unfolding answer_of
  answer-full l n w e h = let k : room < length l = omega arith in rw (w, e, lt-leb _ _ k)

  pub answer-refused : (x : Refusal) → whole ≡ Err x → Err x ≡ answer_of whole room
  unfolding answer_of
  answer-refused x w = rw w

-- what the list holds
module _ (whole : Or (List ℕ)) (room : ℕ) (out : List ℕ) where
  pub filled-listed : (l out' : List ℕ) → whole ≡ Ok l → length l ≤ room → out' ≡ l ++ drop (length l) out
      → out' ≡ filled_of whole room out
  unfolding filled_of
  filled-listed l out' w h k = rw (w, le-leb _ _ h) k

  pub filled-full : (l : List ℕ) → whole ≡ Ok l → room < length l → out ≡ filled_of whole room out
  unfolding filled_of
  filled-full l w h = rw (w, lt-leb _ _ h)

  pub filled-refused : (x : Refusal) → whole ≡ Err x → out ≡ filled_of whole room out
  unfolding filled_of
  filled-refused x w = rw w

-- both, of a call that lists into one list
module _ (whole : Or (List ℕ)) (out : List ℕ) where
  pub listed : (l out' : List ℕ) (n : ℕ) → whole ≡ Ok l → length l ≤ length out → Filled l out n out'
      → Listed whole out (Ok n) out'
  listed l out' n w h f =
      record {
        answer = answer-listed whole (length out) l n w f.0 h;
        filled = filled-listed whole (length out) out l out' w h f.1;
      }

  pub full : (l : List ℕ) (n : ℕ) → whole ≡ Ok l → n ≡ length l → length out < n
      → Listed whole out (Err (NoRoom n (length out))) out
  full l n w e h =
      record {
        answer = answer-full whole (length out) l n w e h;
        filled = filled-full whole (length out) out l w (let k : length out < length l = omega arith in k);
      }

  pub turned-away : (x : Refusal) → whole ≡ Err x → Listed whole out (Err x) out
  turned-away x w =
      record {
        answer = answer-refused whole (length out) x w;
        filled = filled-refused whole (length out) out x w;
      }
