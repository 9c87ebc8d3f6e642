-- Where a word's first failing one is, by kinds and place by place. Assumes nothing.
use Rattle.std.proofs.Common.{◌≡◌, ℕ, zero, suc, ◌+◌, ◌/◌, ◌%◌, ◌<◌, ◌≤◌, true, false, cond, length, drop, sym, refl, ◌∙◌, arith, drop_of_length-le, drop-cons, eq-eqb, ne_eqb}
use Rattle.laws.proofs.Tests.{and_false_r}
use Rattle.def_standard.specs.Chunks.{covers_of, value_of, values_in}
use Rattle.def_crate.specs.Sequence.{passes, sequence_of}
use Rattle.chunk.proofs.ChunkLaws.{length-values_in, values-at, value-run, covers-lt}
use Rattle.ones.specs.Stops.{fails_at, stop_from, stop_at}
use Rattle.range.specs.Failing.{first_fail, never}
use Rattle.range.proofs.FailLaws.{before-first, at_first}

module _ (start end t w : ℕ) where
  -- the first failing one among places q and on
  unfoldable pub stop_here : ℕ → ℕ
  stop_here q = stop_from start end t q (drop q (values_in w))

  -- from place 0 on it is that of the whole word
  pub stop-start : stop_here 0 ≡ stop_at start end t w
  unfolding stop_here
  stop-start = refl

  -- past the last place there is none
  pub stop-end : (q : ℕ) → covers_of w ≤ q → stop_here q ≡ q
  unfolding stop_here stop_from
  stop-end q h =
      let k : length (values_in w) ≤ q = omega (arith, length-values_in w) in rw (drop_of_length-le (values_in w) k)

  stop-place : (q : ℕ) → q < covers_of w → stop_here q ≡ cond (fails_at start end t q (value_of w q)) q (stop_here (suc q))
  unfolding stop_here stop_from
  stop-place q h =
      let k : q < length (values_in w) = omega (arith, length-values_in w) in
      rw (drop-cons (values_in w) q 0 k, values-at w q h)

  -- a place of value zero
  stop-zero : (q : ℕ) → q < covers_of w → (value_of w q ≡ 1 → ⊥) → stop_here q ≡ stop_here (suc q)
  stop-zero q h v = stop-place q h ∙ (rw (ne_eqb _ _ v))

  -- a place whose number passes
  pub stop-passes : (q : ℕ) → q < covers_of w → passes start end (sequence_of q start t) ≡ true
      → stop_here q ≡ stop_here (suc q)
  stop-passes q h p = stop-place q h ∙ (rw (p, and_false_r))

  -- a one that fails
  pub stop-fails : (q : ℕ) → q < covers_of w → value_of w q ≡ 1 → passes start end (sequence_of q start t) ≡ false
      → stop_here q ≡ q
  stop-fails q h v p = stop-place q h ∙ (rw (eq-eqb _ _ v, p))

  zeros-from : w < 16384 → (n q : ℕ) → q + n ≡ covers_of w → stop_here q ≡ covers_of w
  zeros-from h zero q e = stop-end q (omega arith) ∙ (let k : q ≡ covers_of w = omega arith in k)
  zeros-from h (suc n) q e =
      let z : value_of w q ≡ 0 = value-run w q (omega arith) ∙ (let k : w / 16384 % 2 ≡ 0 = omega arith in k) in
      stop-zero q (omega arith) (λ o. let b : ◌≡◌ {A = ℕ} 0 1 = sym z ∙ o in omega arith)
      ∙ zeros-from h n (suc q) (omega arith)

  -- zeros are not tried
  pub stop-zeros : w < 16384 → stop_at start end t w ≡ covers_of w
  stop-zeros h = sym stop-start ∙ zeros-from h (covers_of w) 0 (omega arith)

  module _ (s : start < 65536) (e : end < 65536) where
    -- places before the first that fails are passed over
    pub stop-from : (q : ℕ) → q ≤ covers_of w → q ≤ first_fail start end t → stop_here q ≡ stop_at start end t w
    stop-from zero h f = stop-start
    stop-from (suc q) h f =
        sym (stop-passes q (omega arith) (before-first start end t s e q (omega arith)))
        ∙ stop-from q (omega arith) (omega arith)

    -- a word that ends before the first place that fails
    pub stop-clear : covers_of w ≤ first_fail start end t → stop_at start end t w ≡ covers_of w
    stop-clear h = sym (stop-from (covers_of w) (omega arith) h) ∙ stop-end (covers_of w) (omega arith)

    -- a run of ones stops at the first place that fails
    pub stop-ones : 16384 ≤ w → w < 32768 → first_fail start end t < covers_of w
        → stop_at start end t w ≡ first_fail start end t
    stop-ones h k f =
        let q = first_fail start end t in
        let one : value_of w q ≡ 1 = value-run w q k ∙ (let b : w / 16384 % 2 ≡ 1 = omega arith in b) in
        let some : q ≡ never → ⊥ = λ n. omega (arith, n, f, covers-lt w) in
        sym (stop-from q (omega arith) (omega arith)) ∙ stop-fails q f one (at_first start end t s e some)
