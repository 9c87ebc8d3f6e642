-- Lists that go by positions, and numbers one step apart. Assumes nothing.
use Rattle.std.proofs.Common.{◌≡◌, ℕ, zero, suc, ◌+◌, ◌<◌, ◌≤◌, min, Bool, true, false, cond, eqb, List, [], ◌∷◌, ◌++◌, length, take, replicate, sym, refl, ap, add-zero, arith, le-leb}
use lib.Seq.{take-nil}
use borrow.Author.Tests.{lt-leb}
use Rattle.laws.proofs.Tests.{both, either}
use Rattle.def_standard.specs.Listing.{list_from}
use Rattle.range.specs.Steps.{onward}
use Rattle.ones.specs.Along.{progression, past, along, fitting}

-- x in front of either side of a choice
cond-append : {A : Type 0} (b : Bool) (x : A) (l r : List A) → cond b (x ∷ l) l ++ r ≡ cond b (x ∷ (l ++ r)) (l ++ r)
cond-append true x l r = refl
cond-append false x l r = refl

module _ {A B : Type 0} (test : ℕ → A → Bool) (make : ℕ → A → B) where
  -- a list in two parts: the second goes on where the first ends
  pub list_from-append : (p : ℕ) (xs ys : List A)
      → list_from test make p (xs ++ ys) ≡ list_from test make p xs ++ list_from test make (p + length xs) ys
  list_from-append p [] ys = ap (λ (k : ℕ). list_from test make k ys) (sym (add-zero p))
  list_from-append p (x ∷ xs) ys =
      let e : p + suc (length xs) ≡ suc p + length xs = omega arith in
      let rest = list_from test make (suc p + length xs) ys in
      rw (list_from-append (suc p) xs ys, e)
      (sym (cond-append (test p x) (make p x) (list_from test make (suc p) xs) rest))

  -- where no test holds, nothing is listed
  pub list_from-none : (p : ℕ) (xs : List A) → ((q : ℕ) (x : A) → p ≤ q → test q x ≡ false)
      → list_from test make p xs ≡ []
  list_from-none p [] h = refl
  list_from-none p (x ∷ xs) h =
      rw (h p x (omega arith)) (list_from-none (suc p) xs (λ q y k. h q y (omega arith)))

  -- no more are listed than there are
  pub length-list_from : (p : ℕ) (xs : List A) → length (list_from test make p xs) ≤ length xs
  length-list_from p [] = omega arith
  length-list_from p (x ∷ xs) =
      let r : length (list_from test make (suc p) xs) ≤ length xs = length-list_from (suc p) xs in
      both (λ (l : List B). length l ≤ suc (length xs)) (test p x) (λ _. omega arith) (λ _. omega arith)

pub take-replicate : (k n a : ℕ) → take k (replicate n a) ≡ replicate (min k n) a
take-replicate zero n a = let e : min zero n ≡ 0 = omega arith in rw e
take-replicate (suc k) zero a = let e : min (suc k) 0 ≡ 0 = omega arith in rw e
take-replicate (suc k) (suc n) a =
    let e : min (suc k) (suc n) ≡ suc (min k n) = omega arith in
    rw e (ap (λ (l : List ℕ). a ∷ l) (take-replicate k n a))

-- a run of ones is a progression
pub along-ones : (step first n : ℕ) → along step first (replicate n 1) ≡ progression step first n
unfolding along progression
along-ones step first zero = refl
along-ones step first (suc n) = ap (λ (l : List ℕ). first ∷ l) (along-ones step (onward step first) n)

-- a run of zeros lists nothing
pub along-zeros : (step first n : ℕ) → along step first (replicate n 0) ≡ []
unfolding along
along-zeros step first zero = refl
along-zeros step first (suc n) = along-zeros step (onward step first) n

pub length-progression : (step first n : ℕ) → length (progression step first n) ≡ n
unfolding progression
length-progression step first zero = refl
length-progression step first (suc n) = ap suc (length-progression step (onward step first) n)

-- as many as have value one, whatever the numbers
pub length-along : (step first : ℕ) (p : ℕ) (vs : List ℕ)
    → length (along step first vs) ≡ length (list_from (λ q v. eqb v 1) (λ q (v : ℕ). q) p vs)
unfolding along
length-along step first p [] = refl
length-along step first p (v ∷ vs) =
    either (eqb v 1)
    (λ t. rw t (ap suc (length-along step (onward step first) (suc p) vs)))
    (λ f. rw f (length-along step (onward step first) (suc p) vs))

-- a run's first number, and the rest
pub progression-cons : (step first n m : ℕ) → n ≡ suc m
    → progression step first n ≡ first ∷ progression step (onward step first) m
unfolding progression
progression-cons step first n m e = rw e

pub progression-none : (step first n : ℕ) → n ≡ 0 → progression step first n ≡ []
unfolding progression
progression-none step first n e = rw e

-- no more are listed than there are values
pub length-along-le : (step first : ℕ) (vs : List ℕ) → length (along step first vs) ≤ length vs
length-along-le step first vs =
    rw (length-along step first 0 vs) (length-list_from (λ (q v : ℕ). eqb v 1) (λ (q v : ℕ). q) 0 vs)

-- zeros at the end list nothing
pub along-padded : (step first m : ℕ) (vs : List ℕ) (n : ℕ)
    → along step first (take m (vs ++ replicate n 0)) ≡ along step first (take m vs)
unfolding along
along-padded step first m [] n = rw (take-replicate m n 0, take-nil m) (along-zeros step first (min m n))
along-padded step first zero (v ∷ vs) n = refl
along-padded step first (suc m) (v ∷ vs) n = rw (along-padded step (onward step first) m vs n)

-- there is room for a list, or there is none
module _ (size at : ℕ) (xs : List ℕ) where
  pub fitting-all : at + length xs ≤ size → fitting size at xs ≡ xs
  unfolding fitting
  fitting-all h = rw (le-leb _ _ h)

  pub fitting-none : size < at + length xs → fitting size at xs ≡ []
  unfolding fitting
  fitting-none h = rw (lt-leb _ _ h)

-- the number after a run
pub past-none : (step first n : ℕ) → n ≡ 0 → first ≡ past step first n
unfolding past
past-none step first n e = rw e

pub past_more : (step first n m : ℕ) → m ≡ suc n → onward step (past step first n) ≡ past step first m
unfolding past
past_more step first n m e = rw e
