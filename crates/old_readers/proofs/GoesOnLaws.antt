-- Types 1 and 2: what words list in a range that begins with begin is a prefix of the crate's list, which is longer
-- exactly where `goes_on` says so. The one place that unfolds `goes_on`. Assumes nothing.
--     is_some, Leads      a list comes first in another, and a test tells whether there is more behind it
--     words-lead         what words list in such a range leads the crate's list
use Prim.Native.Nat.{ℕ, suc, ◌+◌, ◌*◌, ◌%◌, ◌^◌, ◌≤◌, ◌<◌}
use mathlib.Core.Path.{◌≡◌, refl, sym, ap, ◌∙◌}
use mathlib.Core.Bool.{Bool, true, false, cond}
use mathlib.Core.List.{List, [], ◌∷◌, ◌++◌, map}
use native.Mathlib.Nat.{mod-lt, mod-eq_of_lt, add-zero}
use native.Mathlib.Omega.{arith}
use lib.ListN.{length}
use lib.Dec.{ltb, eqb, lit<}
use borrow.Author.Tests.{lt-ltb, le-ltb, ltb-true, ltb-false, eqb-true, eqb-false}
use Rattle.laws.proofs.Tests.{either}
use Rattle.def_standard.specs.declared.Range.{Range}
use Rattle.def_standard.specs.Chunks.{covers_of, values_in}
use Rattle.def_standard.specs.Listing.{list_from}
use Rattle.def_standard.specs.Range.{size_of, offset_of, inside, number_of}
use Rattle.def_standard.specs.Standard.{numbers_from, numbers_of}
use Rattle.def_crate.specs.Sequence.{sequence_of, passes, moved_by}
use Rattle.def_crate.specs.Crate.{Try, while_from, ones_in, try_at, tries_from, crate_numbers_from}
use Rattle.chunk.proofs.ChunkLaws.{length-values_in}
use Rattle.range.specs.Inside.{inside_count}
use Rattle.range.specs.Failing.{gap_of}
use Rattle.range.proofs.InsideLaws.{inside-count}
use Rattle.range.proofs.FailLaws.{gap-high, passes-near}
use Rattle.range.proofs.SequenceLaws.{moved-sequence}
use Rattle.range.proofs.NumberLaws.{number_of-zero, number_of-on}
use Rattle.ones.specs.Places.{numbers_in}
use Rattle.ones.proofs.NumbersLaws.{numbers-nil, numbers-cons, numbers_in-outside, numbers-outside}
use Rattle.misled.specs.Misled.{outside_from, goes_on}

-- ---- a list that comes first in another

abbrev pub is_some : List ℕ → Bool
is_some [] = false
is_some (x ∷ l) = true

-- `whole` is `first` and then `more`, which is something exactly where `on` holds
pub record Leads (first whole : List ℕ) (on : Bool) : Type 0 where
  pub more : List ℕ
  pub split : first ++ more ≡ whole
  pub goes : is_some more ≡ on

leads-cons : {first whole : List ℕ} {on : Bool} (x : ℕ) → Leads first whole on → Leads (x ∷ first) (x ∷ whole) on
leads-cons x l = record { more = l.more; split = ap (λ (r : List ℕ). x ∷ r) l.split; goes = l.goes }

leads-test : (on : Bool) (x : ℕ) (l : List ℕ) → Leads [] (cond on (x ∷ l) []) on
leads-test true x l = record { more = x ∷ l; split = refl; goes = refl }
leads-test false x l = record { more = []; split = refl; goes = refl }

-- ---- the way to end

-- a range is as long as end lies beyond begin
size-gap : (b e : ℕ) → b < 65536 → e < 65536 → size_of b e ≡ gap_of b e
size-gap b e h k =
    either (eqb b e) (λ u. let z : b ≡ e = eqb-true _ _ u in rw u (omega arith))
    (λ v. let z : b ≡ e → ⊥ = eqb-false _ _ v in rw v (omega arith))

-- it lies so much less beyond a number on the way
gap-near : (b e x y : ℕ) → b < 65536 → e < 65536 → x + y < gap_of b e → y < gap_of ((b + x) % 65536) e
gap-near b e x y h k l = omega arith

-- a range of some of the numbers from begin to before end
module _ (begin end t size : ℕ) (begin-fits : begin < 65536) (end_fits : end < 65536) (few : size ≤ size_of begin end)
  where
    abbrev g : Range
    g = record { begin = begin; size = size; thinning = t }

    -- a place's number, tried from position p's, passes where that of the position as many on is inside
    inside-passes : (p q : ℕ) → inside g (p + q) ≡ true
        → passes (number_of g p) end (sequence_of q (number_of g p) t) ≡ true
    unfolding inside offset_of number_of
    inside-passes p q h =
        let m = 2 ^ t in
        let near : (p + q) * m < size = ltb-true _ _ h in
        let whole = size-gap begin end begin-fits end_fits in
        let high = gap-high begin end begin-fits end_fits in
        let e : (p + q) * m ≡ p * m + q * m = omega arith in
        let low : q * m < 65536 = omega arith in
        let less = gap-near begin end (p * m) (q * m) begin-fits end_fits (omega arith) in
        rw (mod-eq_of_lt low)
        (passes-near (number_of g p) end (mod-lt (begin + p * m) (lit< tt)) end_fits (q * m) less)

    -- ---- value by value

    -- the tries that pass, up to the first that fails
    abbrev kept_from : ℕ → List Try → List ℕ
    kept_from k tries =
        while_from (λ (_ : ℕ) (x : Try). passes x.start end x.number) (λ (_ : ℕ) (x : Try). x.number) k tries

    -- a word whose first position is p; behind it the standard lists `rest`, and the crate tries `others`
    module _ (p : ℕ) (rest : List ℕ) (others : List Try) (on : Bool)
        (behind : (k : ℕ) → Leads rest (kept_from k others) on) where
      -- the ones among values from place q on
      abbrev tries_at : ℕ → List ℕ → List Try
      tries_at q vs =
          map (try_at t (number_of g p)) (list_from (λ (_ : ℕ) (value : ℕ). eqb value 1) (λ (r : ℕ) (_ : ℕ). r) q vs)

      -- whether the crate goes on: the first one outside is at place q, or there is none before the place `past`
      abbrev goes_at : ℕ → ℕ → Bool
      goes_at q past = cond (ltb q past) (passes (number_of g p) end (number_of g (p + q))) on

      abbrev ValuesLed : ℕ → ℕ → List ℕ → Type 0
      ValuesLed k q vs =
          Leads (numbers_in g (p + q) vs ++ rest) (kept_from k (tries_at q vs ++ others))
          (goes_at (outside_from g p q vs) (q + length vs))

      -- a one inside is listed in both; at the first one outside the standard's list ends, and the crate's is tested
      value-led : (k q v : ℕ) (vs : List ℕ) → (inside_count g ≤ p + q → rest ≡ []) → ((i : ℕ) → ValuesLed i (suc q) vs)
          → ValuesLed k q (v ∷ vs)
      unfolding outside_from numbers_in
      value-led k q v vs last led =
          let next : p + suc q ≡ suc (p + q) = omega arith in
          let same : q + suc (length vs) ≡ suc q + length vs = omega arith in
          let past : q < q + suc (length vs) = omega arith in
          either (eqb v 1)
          (λ one. either (inside g (p + q))
          (λ near. rw (one, near, same, inside-passes p q near, number_of-on g p q)
          (leads-cons (number_of g (p + q)) (rw next at (led (suc k)))))
          (λ out. let far : inside_count g ≤ p + q = ltb-false _ _ (sym (inside-count g (p + q)) ∙ out) in
          let none = numbers_in-outside g (suc (p + q)) vs (omega arith) in
          rw (one, out, lt-ltb _ _ past, last far, none, number_of-on g p q)
          (leads-test (passes (number_of g p) end (number_of g (p + q))) _ _)))
          (λ zero. rw (zero, same) (rw next at (led k)))

      values-led : (k q : ℕ) (vs : List ℕ) → (inside_count g ≤ p + (q + length vs) → rest ≡ []) → ValuesLed k q vs
      unfolding outside_from numbers_in
      values-led k q [] last = let n : q + 0 ≤ q = omega arith in rw (le-ltb _ _ n) (behind k)
      values-led k q (v ∷ vs) last =
          value-led k q v vs (λ n. last (omega arith)) (λ i. values-led i (suc q) vs (λ n. last (omega arith)))

    -- ---- word by word

    abbrev WordsLed : ℕ → ℕ → List ℕ → Type 0
    WordsLed k p ws = Leads (numbers_from g p ws) (kept_from k (tries_from t (number_of g p) ws)) (goes_on g end p ws)

    word-led : (k p w : ℕ) (ws : List ℕ) → ((i : ℕ) → WordsLed i (p + covers_of w) ws) → WordsLed k p (w ∷ ws)
    unfolding tries_from ones_in goes_on
    word-led k p w ws led =
        let next = p + covers_of w in
        let moved : moved_by (covers_of w) t (number_of g p) ≡ number_of g next =
        moved-sequence (covers_of w) t (number_of g p) ∙ number_of-on g p (covers_of w) in
        let covers : covers_of w ≡ 0 + length (values_in w) = omega (arith, length-values_in w) in
        let last : inside_count g ≤ p + (0 + length (values_in w)) → numbers_from g next ws ≡ [] =
        λ n. numbers-outside g next ws (omega arith) in
        let word = values-led p (numbers_from g next ws) (tries_from t (number_of g next) ws) (goes_on g end next ws) led in
        rw (numbers-cons g p w ws, moved) (rw (← covers, add-zero p) at (word k 0 (values_in w) last))

    words-led : (k p : ℕ) (ws : List ℕ) → WordsLed k p ws
    unfolding tries_from goes_on
    words-led k p [] = rw (numbers-nil g p) (record { more = []; split = refl; goes = refl })
    words-led k p (w ∷ ws) = word-led k p w ws (λ i. words-led i (p + covers_of w) ws)

    pub words-lead : (ws : List ℕ)
        → Leads (numbers_of (record { begin = begin; size = size; thinning = t }) ws) (crate_numbers_from end t begin ws)
        (goes_on (record { begin = begin; size = size; thinning = t }) end 0 ws)
    unfolding crate_numbers_from
    words-lead ws = rw (number_of-zero g begin-fits) at (words-led 0 0 ws)
