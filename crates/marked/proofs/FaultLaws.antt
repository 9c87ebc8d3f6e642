-- The laws of the refusals of marks: the one place that unfolds `bad_from`, `marks_fault` and `marks_asked`. Assumes
-- nothing.
--     bad-here, bad-next, bad-end     17 at a place, or behind it, or not at all
--     bad-skip                        or behind several
--     fine-marks, marks-fine          it is not given exactly where each byte is 0 or 1
--     fault-many, fault-few           14 first
--     asked-fine, asked-unfit         the words, or the refusal
--     fault-fine                      no refusal: at most 65,536 bytes, each 0 or 1
use Rattle.std.specs.Prelude.{Ok, Err}
use Prim.Native.Nat.{ℕ, zero, suc, ◌+◌, ◌≤◌, ◌<◌}
use mathlib.Core.Path.{◌≡◌, refl, sym, ◌∙◌}
use mathlib.Core.List.{List, [], ◌∷◌}
use native.Mathlib.Omega.{arith}
use lib.ListN.{length, get_or, drop, drop_of_length-le}
use lib.Dec.{ltb, leb}
use borrow.Author.Tests.{ltb-true, ltb-false, leb-true, le-leb, lt-leb, lt-ltb, le-ltb}
use Rattle.def_refusals.specs.Answers.{Or}
use Rattle.laws.proofs.Tests.{by-test, either}
use Rattle.def_refusals.specs.declared.Refusal.{Refusal}
use Rattle.def_refusals.specs.declared.Refusal.TheVariants.{TooMany, BadMark}
use Rattle.def_marks.specs.Marks.{bad_from, marks_fault, marks_asked, words_of}
use Rattle.marked.specs.Marked.{Marks}

-- no refusal is one
unfit≢fine : {P : Type 0} (x : Refusal) → ◌≡◌ {A = Or (Unit {0})} (Err x) (Ok tt) → P
unfit≢fine x e = absurd (let y : ◌≡◌ {A = ℕ} 0 1 = cc in omega arith)

-- ---- 17

pub marks-fine : (i : ℕ) (ms : List ℕ) → Marks ms → bad_from i ms ≡ Ok tt
unfolding bad_from
marks-fine i [] h = refl
marks-fine i (m ∷ ms) h = rw (le-leb m 1 (h 0)) (marks-fine (suc i) ms (λ j. h (suc j)))

pub fine-marks : (i : ℕ) (ms : List ℕ) → bad_from i ms ≡ Ok tt → Marks ms
unfolding bad_from
fine-marks i [] e j = omega arith
fine-marks i (m ∷ ms) e zero = by-test (leb m 1) (λ t _. leb-true m 1 t) (λ _. unfit≢fine (BadMark i)) e
fine-marks i (m ∷ ms) e (suc j) =
    by-test (leb m 1) (λ _ f. fine-marks (suc i) ms f j) (λ _. unfit≢fine (BadMark i)) e

pub bad-end : (i k : ℕ) (ms : List ℕ) → length ms ≤ k → bad_from i (drop k ms) ≡ Ok tt
unfolding bad_from
bad-end i k ms h = rw (drop_of_length-le ms h)

pub bad-here : (i k : ℕ) (ms : List ℕ) → k < length ms → 1 < get_or ms k 0 → bad_from i (drop k ms) ≡ Err (BadMark i)
unfolding bad_from
bad-here i k [] h b = absurd (omega arith)
bad-here i zero (m ∷ ms) h b = rw (lt-leb m 1 b)
bad-here i (suc k) (m ∷ ms) h b = bad-here i k ms (omega arith) b

bad-suc : (i k : ℕ) (ms : List ℕ) → k < length ms → get_or ms k 0 ≤ 1
    → bad_from i (drop k ms) ≡ bad_from (suc i) (drop (suc k) ms)
unfolding bad_from
bad-suc i k [] h b = absurd (omega arith)
bad-suc i zero (m ∷ ms) h b = rw (le-leb m 1 b)
bad-suc i (suc k) (m ∷ ms) h b = bad-suc i k ms (omega arith) b

pub bad-next : (i : ℕ) (ms : List ℕ) → i < length ms → get_or ms i 0 ≤ 1
    → bad_from i (drop i ms) ≡ bad_from (i + 1) (drop (i + 1) ms)
bad-next i ms h b = let e : i + 1 ≡ suc i = omega arith in rw e (bad-suc i i ms h b)

-- several at once
pub bad-skip : (n i : ℕ) (ms : List ℕ) → i + n ≤ length ms → ((j : ℕ) → j < n → get_or ms (i + j) 0 ≤ 1)
    → bad_from i (drop i ms) ≡ bad_from (i + n) (drop (i + n) ms)
bad-skip zero i ms h each = let z : i + 0 ≡ i = omega arith in rw z
bad-skip (suc n) i ms h each =
    let z : i + 0 ≡ i = omega arith in
    let e : i + suc n ≡ i + 1 + n = omega arith in
    let first : get_or ms i 0 ≤ 1 = rw z at (each 0 (omega arith)) in
    bad-next i ms (omega arith) first
    ∙ (rw e (bad-skip n (i + 1) ms (omega arith)
    (λ j b. let k : i + 1 + j ≡ i + suc j = omega arith in rw k (each (suc j) (omega arith)))))

-- ---- the order

module _ (ms : List ℕ) where
  pub fault-many : 65536 < length ms → marks_fault ms ≡ Err (TooMany (length ms) 65536)
  unfolding marks_fault
  fault-many h = rw (lt-ltb 65536 (length ms) h)

  pub fault-few : length ms ≤ 65536 → marks_fault ms ≡ bad_from 0 ms
  unfolding marks_fault
  fault-few h = rw (le-ltb 65536 (length ms) h)

  pub asked-fine : marks_fault ms ≡ Ok tt → marks_asked ms ≡ Ok (words_of ms)
  unfolding marks_asked
  asked-fine e = rw e

  pub asked-unfit : (x : Refusal) → marks_fault ms ≡ Err x → marks_asked ms ≡ Err x
  unfolding marks_asked
  asked-unfit x e = rw e

  pub fault-fine : marks_fault ms ≡ Ok tt → (length ms ≤ 65536) × Marks ms
  unfolding marks_fault
  fault-fine e =
      either (ltb 65536 (length ms)) (λ t. unfit≢fine _ (sym (fault-many (ltb-true 65536 (length ms) t)) ∙ e))
      (λ t. let b = ltb-false 65536 (length ms) t in (b, fine-marks 0 ms (sym (fault-few b) ∙ e)))
