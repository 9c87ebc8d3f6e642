-- 17 by the place of the first byte that is neither 0 nor 1. Assumes nothing.
--     bad-at, bad-nowhere      by its index, or where there is none
use Rattle.std.specs.Prelude.{Ok, Err}
use Rattle.std.proofs.Common.{◌≡◌, refl, ℕ, zero, suc, ◌+◌, ◌≤◌, ◌<◌, List, [], ◌∷◌, length, get_or, position, nat_lt, Some, None, not, arith}
use Rattle.std.proofs.lemmas.List.Quantifiers.{position-Some}
use Rattle.std.specs.List.{prefix_len}
use Rattle.laws.proofs.Tests.{either}
use borrow.Author.Tests.{ltb-true, ltb-false, le-leb, lt-leb}
use Rattle.def_refusals.specs.declared.Refusal.TheVariants.{BadMark}
use Rattle.def_marks.specs.Marks.{bad_from}

bad-behind : (i k : ℕ) (ms : List ℕ) → k < length ms → 1 < get_or ms k 0
    → ((j : ℕ) → j < k → get_or ms j 0 ≤ 1) → bad_from i ms ≡ Err (BadMark (i + k))
unfolding bad_from
bad-behind i k [] h b each = absurd (omega arith)
bad-behind i zero (m ∷ ms) h b each = let e : i + 0 ≡ i = omega arith in rw (e, lt-leb m 1 b)
bad-behind i (suc k) (m ∷ ms) h b each =
    let e : i + suc k ≡ suc i + k = omega arith in
    rw (e, le-leb m 1 (each 0 (omega arith)))
    (bad-behind (suc i) k ms (omega arith) b (λ j l. each (suc j) (omega arith)))

pub bad-at : (i k : ℕ) (ms : List ℕ) → position (λ m. nat_lt 1 m) ms ≡ Some k
    → bad_from i ms ≡ Err (BadMark (i + k))
bad-at i k ms e =
    let p = position-Some (λ (m : ℕ). nat_lt 1 m) ms k 0 e in
    bad-behind i k ms p.0 (ltb-true 1 (get_or ms k 0) p.1)
    (λ j l. ltb-false 1 (get_or ms j 0) (p.2 j l))

abbrev before : List ℕ → ℕ
before ms = prefix_len (λ m. not (nat_lt 1 m)) ms

fine-none : (i : ℕ) (ms : List ℕ) → length ms ≤ before ms → bad_from i ms ≡ Ok tt
unfolding bad_from
fine-none i [] h = refl
fine-none i (m ∷ ms) h =
    either (nat_lt 1 m)
    (λ t. let e : before (m ∷ ms) ≡ 0 = rw t in absurd (omega arith))
    (λ f.
    let e : before (m ∷ ms) ≡ 1 + before ms = rw f in
    rw (le-leb m 1 (ltb-false 1 m f)) (fine-none (suc i) ms (omega arith)))

pub bad-nowhere : (i : ℕ) (ms : List ℕ) → position (λ m. nat_lt 1 m) ms ≡ None → bad_from i ms ≡ Ok tt
bad-nowhere i ms e =
    either (nat_lt (before ms) (length ms))
    (λ t. let k : Some (before ms) ≡ None = rw t at e in absurd (cc))
    (λ f. fine-none i ms (ltb-false (before ms) (length ms) f))
