-- The laws of equal marks in a row: the one place that unfolds `run_of`. Assumes nothing.
--     run-le        no more than there are
--     run-each      each of them is m
--     run-reach     as many as are known to be m
--     run-stop      no more than up to one that is another
--     run-behind    behind the first, one fewer
use Prim.Native.Nat.{ℕ, zero, suc, ◌≤◌, ◌<◌}
use mathlib.Core.Path.{◌≡◌}
use mathlib.Core.List.{List, [], ◌∷◌}
use native.Mathlib.Omega.{arith}
use lib.ListN.{length, get_or}
use lib.Dec.{ltb, eqb}
use borrow.Author.Tests.{ltb-true, ltb-false, eqb-true, eq-eqb}
use Rattle.laws.proofs.Tests.{both, either}
use Rattle.def_marks.specs.Marks.{run_of}

module _ (m : ℕ) where
  pub run-le : (l : List ℕ) → run_of m l ≤ length l
  unfolding run_of
  run-le [] = omega arith
  run-le (x ∷ l) =
      both (λ (n : ℕ). n ≤ suc (length l)) (eqb x m) (λ _. omega (arith, run-le l)) (λ _. omega arith)

  pub run-each : (l : List ℕ) (i : ℕ) → i < run_of m l → get_or l i 0 ≡ m
  unfolding run_of
  run-each [] i = λ h. absurd (omega arith)
  run-each (x ∷ l) zero =
      both (λ (n : ℕ). 0 < n → x ≡ m) (eqb x m) (λ e h. eqb-true x m e) (λ _ h. absurd (omega arith))
  run-each (x ∷ l) (suc i) =
      both (λ (n : ℕ). suc i < n → get_or l i 0 ≡ m) (eqb x m) (λ e h. run-each l i (omega arith))
      (λ _ h. absurd (omega arith))

  pub run-reach : (k : ℕ) (l : List ℕ) → k ≤ length l → ((i : ℕ) → i < k → get_or l i 0 ≡ m) → k ≤ run_of m l
  unfolding run_of
  run-reach zero l h each = omega arith
  run-reach (suc k) [] h each = absurd (omega arith)
  run-reach (suc k) (x ∷ l) h each =
      let r : k ≤ run_of m l = run-reach k l (omega arith) (λ i g. each (suc i) (omega arith)) in
      rw (eq-eqb x m (each 0 (omega arith))) (omega (arith, r))

  pub run-stop : (k : ℕ) (l : List ℕ) → (get_or l k 0 ≡ m → ⊥) → run_of m l ≤ k
  run-stop k l other =
      either (ltb k (run_of m l)) (λ t. absurd (other (run-each l k (ltb-true k (run_of m l) t))))
      (λ t. ltb-false k (run_of m l) t)

  pub run-behind : (k x : ℕ) (l : List ℕ) → suc k ≤ run_of m (x ∷ l) → k ≤ run_of m l
  unfolding run_of
  run-behind k x l =
      both (λ (n : ℕ). suc k ≤ n → k ≤ run_of m l) (eqb x m) (λ _ h. omega (arith, h)) (λ _ h. absurd (omega (arith, h)))
