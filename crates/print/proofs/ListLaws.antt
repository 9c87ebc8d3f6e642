-- The laws of lists with a space before each number, as a loop goes through the first n items of a list.
use Prim.Native.Nat.{ℕ, zero, suc, ◌+◌, ◌≤◌, ◌<◌}
use mathlib.Core.Path.{◌≡◌, refl, sym, ap, ◌∙◌}
use mathlib.Core.List.{List, [], ◌∷◌, ◌++◌, append_assoc, append-nil}
use native.Mathlib.Numerals.{add-one}
use native.Mathlib.Omega.{arith}
use lib.ListN.{length, take, drop, get_or}
use lib.Seq.{drop-cons}
use Rattle.std.proofs.Common.{Option, Some, None, length-append}
use Rattle.std.specs.List.{zip}
use Rattle.std.specs.Iterator.{Yields}
use Rattle.std.proofs.lemmas.Iterator.{YieldsList}
use Rattle.std.proofs.lemmas.Iterator.Consumers.{YieldsList-turn, YieldsList-end}
use Rattle.def_text.specs.Numerals.{spaced, spaced_all, hex_of, hexes_of, two_in_turn, three_in_turn}

pub drop_all : {A : Type 0} (l : List A) (i : ℕ) → length l ≤ i → drop i l ≡ []
drop_all [] zero h = refl
drop_all [] (suc i) h = refl
drop_all (x ∷ l) zero h = absurd (omega arith)
drop_all (x ∷ l) (suc i) h = drop_all l i (omega arith)

pub drop-next : (l : List ℕ) (i : ℕ) → i < length l → drop i l ≡ get_or l i 0 ∷ drop (i + 1) l
drop-next l i h = drop-cons l i 0 h ∙ (rw add-one)

-- a loop over an iterator that gives the list `all`, and has given xs of it: what is still to come
module _ {S A B : Type 0} {steps : S → Option A → S → Type 0} {v : A → B} {s : S} {all : List B} where
  pub rest-next : (e : YieldsList steps v s all) (xs : List A) (t : S) (y : Yields steps s xs t) (r : Option A) (u : S)
      (x : A) → r ≡ Some x → steps t r u → drop (length xs) all ≡ v x ∷ drop (length (xs ++ (x ∷ []))) all
  rest-next e xs t y r u x i g =
      let p = YieldsList-turn e xs t y r u x i g in
      let k : length (xs ++ (x ∷ [])) ≡ suc (length xs) = omega (arith, length-append xs (x ∷ [])) in
      rw k (drop-cons all (length xs) (v x) p.0 ∙ ap (λ (z : B). z ∷ drop (suc (length xs)) all) (sym p.1))

  pub rest-end : (e : YieldsList steps v s all) (xs : List A) (t : S) (y : Yields steps s xs t) (r : Option A) (u : S)
      → r ≡ None → steps t r u → drop (length xs) all ≡ []
  rest-end e xs t y r u i g =
      let p = YieldsList-end e xs t y r u i g in
      drop_all all (length xs) (omega (arith, p.1))

pub spaced-append : (a b : List ℕ) → spaced_all (a ++ b) ≡ spaced_all a ++ spaced_all b
unfolding spaced_all
spaced-append [] b = refl
spaced-append (x ∷ a) b = ap (λ (t : List ℕ). spaced x ++ t) (spaced-append a b)
    ∙ sym (append_assoc (spaced x) (spaced_all a) (spaced_all b))

-- a few numbers, each known by an equation
pub pair-spaced : {x y a b : ℕ} → x ≡ a → y ≡ b → spaced x ++ spaced y ≡ spaced_all (a ∷ b ∷ [])
unfolding spaced_all
pair-spaced {b = b} e f = rw (e, f, append-nil (spaced b))

pub triple-spaced : {x y z a b c : ℕ} → x ≡ a → y ≡ b → z ≡ c
    → spaced x ++ (spaced y ++ spaced z) ≡ spaced_all (a ∷ b ∷ c ∷ [])
unfolding spaced_all
triple-spaced {c = c} e f g = rw (e, f, g, append-nil (spaced c))

-- of one list: the text of one item more
pub list-next : {x y : ℕ} {l l' : List ℕ} → y ≡ x → l ≡ x ∷ l' → spaced_all l ≡ spaced y ++ spaced_all l'
unfolding spaced_all
list-next d e = rw (d, e)

pub list-end : {l : List ℕ} → l ≡ [] → spaced_all l ≡ []
unfolding spaced_all
list-end e = rw e

pub hex-next : {x : ℕ} {l l' : List ℕ} → l ≡ x ∷ l' → hexes_of l ≡ hex_of x ++ hexes_of l'
unfolding hexes_of
hex-next e = rw e

pub hex-end : {l : List ℕ} → l ≡ [] → hexes_of l ≡ []
unfolding hexes_of
hex-end e = rw e

-- of two lists side by side, as pairs
unfoldable pub pairs_text : List (ℕ × ℕ) → List ℕ
pairs_text [] = []
pairs_text (p ∷ l) = spaced_all (p.0 ∷ p.1 ∷ []) ++ pairs_text l

pub pairs-next : {p : ℕ × ℕ} {l l' : List (ℕ × ℕ)} → l ≡ p ∷ l'
    → pairs_text l ≡ spaced_all (p.0 ∷ p.1 ∷ []) ++ pairs_text l'
unfolding pairs_text
pairs-next e = rw e

pub pairs-end : {l : List (ℕ × ℕ)} → l ≡ [] → pairs_text l ≡ []
unfolding pairs_text
pairs-end e = rw e

pub pairs-whole : (n : ℕ) (a b : List ℕ) → spaced_all (two_in_turn (take n a) (take n b)) ≡ pairs_text (take n (zip a b))
unfolding pairs_text two_in_turn spaced_all
pairs-whole zero a b = refl
pairs-whole (suc n) [] b = refl
pairs-whole (suc n) (x ∷ a) [] = refl
pairs-whole (suc n) (x ∷ a) (y ∷ b) =
    spaced-append (x ∷ y ∷ []) (two_in_turn (take n a) (take n b))
    ∙ ap (λ (t : List ℕ). spaced_all (x ∷ y ∷ []) ++ t) (pairs-whole n a b)

-- of three
unfoldable pub entries_text : List ((ℕ × ℕ) × ℕ) → List ℕ
entries_text [] = []
entries_text (p ∷ l) = spaced_all (p.0.0 ∷ p.0.1 ∷ p.1 ∷ []) ++ entries_text l

pub entries-next : {p : (ℕ × ℕ) × ℕ} {l l' : List ((ℕ × ℕ) × ℕ)} → l ≡ p ∷ l'
    → entries_text l ≡ spaced_all (p.0.0 ∷ p.0.1 ∷ p.1 ∷ []) ++ entries_text l'
unfolding entries_text
entries-next e = rw e

pub entries-end : {l : List ((ℕ × ℕ) × ℕ)} → l ≡ [] → entries_text l ≡ []
unfolding entries_text
entries-end e = rw e

pub entries-whole : (n : ℕ) (a b c : List ℕ)
    → spaced_all (three_in_turn (take n a) (take n b) (take n c)) ≡ entries_text (take n (zip (zip a b) c))
unfolding entries_text three_in_turn spaced_all
entries-whole zero a b c = refl
entries-whole (suc n) [] b c = refl
entries-whole (suc n) (x ∷ a) [] c = refl
entries-whole (suc n) (x ∷ a) (y ∷ b) [] = refl
entries-whole (suc n) (x ∷ a) (y ∷ b) (z ∷ c) =
    spaced-append (x ∷ y ∷ z ∷ []) (three_in_turn (take n a) (take n b) (take n c))
    ∙ ap (λ (t : List ℕ). spaced_all (x ∷ y ∷ z ∷ []) ++ t) (entries-whole n a b c)
