-- Where a word's first one outside the range is, place by place: the one place that unfolds `outside_from`. Of the
-- positions from the word's first on, `left` are inside. Assumes nothing.
--     outside-quiet     a word without ones has none
--     outside-clear     a word that ends inside has none
--     outside-first     it is the first one from place `left` on
--     outside-none      where that lies past the word, there is none
use Rattle.std.proofs.Common.{◌≡◌, ℕ, zero, suc, ◌+◌, ◌-◌, ◌<◌, ◌≤◌, Bool, false, cond, not, ◌&&◌, eqb, ltb, length, drop, refl, ◌∙◌, arith, drop_of_length-le, drop-cons, ltb-false, ltb-true, eq-eqb}
use Rattle.laws.proofs.Tests.{either, and_false_r}
use Rattle.def_standard.specs.declared.Range.{Range}
use Rattle.def_standard.specs.Chunks.{covers_of, value_of, values_in}
use Rattle.def_standard.specs.Range.{inside}
use Rattle.chunk.proofs.ChunkLaws.{length-values_in, values-at}
use Rattle.range.specs.Inside.{inside_count}
use Rattle.range.proofs.InsideLaws.{is-inside, is-outside}
use Rattle.misled.specs.Misled.{outside_from, outside_at}
use Rattle.misled.specs.Known.{FirstOne, Quiet}

module _ (g : Range) (p w : ℕ) where
  -- place q has value one and is outside
  abbrev is_out : ℕ → Bool
  is_out q = eqb (value_of w q) 1 && not (inside g (p + q))

  -- the first such place from q on
  unfoldable out_here : ℕ → ℕ
  out_here q = outside_from g p q (drop q (values_in w))

  out-start : outside_at g p w ≡ out_here 0
  unfolding out_here
  out-start = refl

  out-end : (q : ℕ) → covers_of w ≤ q → out_here q ≡ q
  unfolding out_here outside_from
  out-end q h =
      let k : length (values_in w) ≤ q = omega (arith, length-values_in w) in rw (drop_of_length-le (values_in w) k)

  out-place : (q : ℕ) → q < covers_of w → out_here q ≡ cond (is_out q) q (out_here (suc q))
  unfolding out_here outside_from
  out-place q h =
      let k : q < length (values_in w) = omega (arith, length-values_in w) in
      rw (drop-cons (values_in w) q 0 k, values-at w q h)

  -- places that are not are passed over
  out-from : (k : ℕ) → k ≤ covers_of w → ((i : ℕ) → i < k → is_out i ≡ false) → outside_at g p w ≡ out_here k
  out-from zero h z = out-start
  out-from (suc k) h z =
      out-from k (omega arith) (λ i a. z i (omega arith)) ∙ out-place k (omega arith) ∙ (rw (z k (omega arith)))

  out_none : ((i : ℕ) → i < covers_of w → is_out i ≡ false) → covers_of w ≤ outside_at g p w
  out_none z = omega (arith, out-from (covers_of w) (omega arith) z, out-end (covers_of w) (omega arith))

  pub outside-quiet : Quiet w → covers_of w ≤ outside_at g p w
  outside-quiet q = out_none (λ i a. rw (q.zeros i a))

  module _ {left : ℕ} (l : left ≡ inside_count g - p) where
    is-in : (i : ℕ) → i < left → is_out i ≡ false
    is-in i h =
        let k : p + i < inside_count g = omega arith in
        rw (is-inside g (p + i) k) (and_false_r (eqb (value_of w i) 1))

    pub outside-clear : covers_of w ≤ left → covers_of w ≤ outside_at g p w
    outside-clear h = out_none (λ i a. is-in i (omega arith))

    module _ {r : ℕ} (f : FirstOne w left r) where
      -- up to the first one, places are inside or zero
      is-before : (i : ℕ) → i < r → i < covers_of w → is_out i ≡ false
      is-before i a b =
          either (ltb i left)
          (λ t. is-in i (ltb-true _ _ t))
          (λ t. rw (f.zeros i (ltb-false _ _ t) a b))

      pub outside-first : r < covers_of w → outside_at g p w ≡ r
      outside-first k =
          let o : inside_count g ≤ p + r = omega (arith, f.from) in
          out-from r (omega arith) (λ i a. is-before i a (omega arith))
          ∙ out-place r k ∙ (rw (eq-eqb _ _ (f.one k), is-outside g (p + r) o))

      pub outside-none : covers_of w ≤ r → covers_of w ≤ outside_at g p w
      outside-none k = out_none (λ i a. is-before i (omega arith) a)
