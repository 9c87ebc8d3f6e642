-- A part of a list that is cut to what there is. Assumes nothing.
use Rattle.std.proofs.Common.{◌≡◌, ℕ, ◌+◌, ◌-◌, ◌<◌, ◌≤◌, min, leb, List, length, take, drop, sym, ap, ◌∙◌, add_comm, arith, length-drop, drop_of_length-le, length-take, take_all, leb-false, leb-true}
use Rattle.laws.proofs.Tests.{either}

module _ (l : List ℕ) (n m : ℕ) (cut : m ≡ min n (length l)) where
  -- past the end nothing is left
  pub drop-cut : drop m l ≡ drop n l
  drop-cut =
      either (leb n (length l))
      (λ t. let h : n ≤ length l = leb-true _ _ t in let e : m ≡ n = omega arith in rw e)
      (λ f. let h : length l < n = leb-false _ _ f in
      drop_of_length-le l {i = m} (omega arith) ∙ sym (drop_of_length-le l {i = n} (omega arith)))

  -- no more is taken than there is
  pub take-cut : take m l ≡ take n l
  take-cut =
      either (leb n (length l))
      (λ t. let h : n ≤ length l = leb-true _ _ t in let e : m ≡ n = omega arith in rw e)
      (λ f. let h : length l < n = leb-false _ _ f in
      take_all m l (omega arith) ∙ sym (take_all n l (omega arith)))

  pub length_cut : m ≡ length (take m l)
  length_cut = omega (arith, length-take m l)
