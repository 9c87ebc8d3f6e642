-- A list of numbers that is filled into the part of a list from an index on. Assumes nothing.
use Rattle.std.specs.Prelude.{Ok, Err}
use Rattle.std.proofs.Common.{◌≡◌, ℕ, ◌+◌, ◌-◌, ◌≤◌, List, [], ◌++◌, length, take, drop, sym, ap, ◌∙◌, append_assoc, append-nil, arith, length-drop, take_all, drop-drop, le-leb}
use lib.Seq.{sets, sets-eq, drop-length}
use borrow.Rule.Slice.PartMut.{mid_of, post_of, put_mid}
use Rattle.def_refusals.specs.declared.Refusal.{Refusal}
use Rattle.def_refusals.specs.Answers.{answer_of, filled_of, Listed, Or}

module _ (l xs : List ℕ) (n : ℕ) (room : n + length l ≤ length xs) where
  -- the part, and what is behind it
  abbrev mid : List ℕ
  mid = mid_of n (length xs - n) xs

  mid-is : mid ≡ drop n xs
  mid-is = take_all (length xs - n) (drop n xs) (omega (arith, length-drop n xs))

  behind : post_of n (length xs - n) xs ≡ []
  behind =
      let e : n + (length xs - n) ≡ length xs = omega arith in
      drop-drop (length xs - n) n xs ∙ ap (λ (k : ℕ). drop k xs) e ∙ drop-length xs

  put-mid : put_mid n (length xs - n) xs (l ++ drop (length l) mid) ≡ sets xs n l
  put-mid =
      ap (λ (ys : List ℕ). take n xs ++ ((l ++ drop (length l) mid) ++ ys)) behind
      ∙ ap (λ (ys : List ℕ). take n xs ++ ys) (append-nil (l ++ drop (length l) mid))
      ∙ ap (λ (ys : List ℕ). take n xs ++ (l ++ drop (length l) ys)) mid-is
      ∙ ap (λ (ys : List ℕ). take n xs ++ (l ++ ys)) (drop-drop (length l) n xs)
      ∙ sym (append_assoc (take n xs) l (drop (n + length l) xs)) ∙ sym (sets-eq l xs n room)

  has_room : length l ≤ length mid
  has_room = omega (arith, ap length mid-is, length-drop n xs)

  module _ {r : Or ℕ} {ys : List ℕ} (f : Listed (Ok l) mid r ys) where
    pub answered : r ≡ Ok (length l)
    unfolding answer_of
    answered = f.answer ∙ (rw (le-leb _ _ has_room))

    pub filled-part : put_mid n (length xs - n) xs ys ≡ sets xs n l
    unfolding filled_of
    filled-part =
        let e : ys ≡ l ++ drop (length l) mid = f.filled ∙ (rw (le-leb _ _ has_room)) in
        ap (put_mid n (length xs - n) xs) e ∙ put-mid

abbrev count_in : Or ℕ → ℕ
count_in (Ok m) = m
count_in (Err x) = 0

abbrev is_done : Or ℕ → ℕ
is_done (Ok m) = 1
is_done (Err x) = 0

-- as many as were listed
pub done-as : {r : Or ℕ} {m k : ℕ} → r ≡ Ok k → r ≡ Ok m → m ≡ k
done-as e f = ap count_in (sym f ∙ e)

pub not-refused : {P : Type 0} {r : Or ℕ} {k : ℕ} {x : Refusal} → r ≡ Ok k → r ≡ Err x → P
not-refused e f = let h : ◌≡◌ {A = ℕ} 1 0 = ap is_done (sym e ∙ f) in absurd (omega arith)
