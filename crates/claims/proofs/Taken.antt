-- A listing call that was not refused has what is shown, in front of the lent list. Assumes nothing.
use Rattle.std.specs.Prelude.{Ok, Err}
use Prim.Native.Nat.{ℕ}
use mathlib.Core.Path.{◌≡◌, sym, ap}
use mathlib.Core.List.{List, ◌++◌}
use native.Mathlib.Omega.{arith}
use lib.ListN.{length, take, drop}
use lib.Seq.{take-append_seam}
use lib.Dec.{leb}
use Rattle.laws.proofs.Tests.{by-test}
use Rattle.def_refusals.specs.Answers.{Or, answer_of, filled_of, Listed}

pub done-eq : {m n : ℕ} → ◌≡◌ {A = Or ℕ} (Ok m) (Ok n) → m ≡ n
done-eq e = cc

module _ (out out' : List ℕ) (n : ℕ) where
  pub shown-taken : (l : List ℕ) → Listed (Ok l) out (Ok n) out' → l ≡ take n out'
  unfolding answer_of filled_of
  shown-taken l p =
      by-test (leb (length l) (length out))
      (λ t e.
      let k : n ≡ length l = sym (done-eq e) in
      let f : out' ≡ l ++ drop (length l) out = rw t at p.filled in
      rw (k, f) (sym (take-append_seam l (drop (length l) out))))
      (λ _ e. absurd (let z : ◌≡◌ {A = ℕ} 0 1 = cc in omega arith)) (sym p.answer)

  pub listed-taken : (whole : Or (List ℕ)) → Listed whole out (Ok n) out' → whole ≡ Ok (take n out')
  unfolding answer_of
  listed-taken (Ok l) p = ap Ok (shown-taken l p)
  listed-taken (Err x) p = absurd (let e = p.answer in let z : ◌≡◌ {A = ℕ} 0 1 = cc in omega arith)
