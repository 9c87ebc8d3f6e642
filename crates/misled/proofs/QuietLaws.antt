-- Words without ones, told by their bits. Assumes nothing.
--     quiet-lowered     a word that has nothing above its 14 lowest bits once its lowest one bit is taken away
use Rattle.std.proofs.Common.{◌≡◌, ℕ, ◌+◌, ◌*◌, ◌/◌, ◌%◌, ◌^◌, ◌<◌, ◌≤◌, eqb, ltb, refl, ◌∙◌, arith, ltb-false, ltb-true, eqb-true}
use lib.Bits.{bit_and, and_shr}
use lib.Count.{count_leading_zeros}
use borrow.Author.Tests.{eqb-false}
use Rattle.laws.proofs.Tests.{either}
use Rattle.chunk.proofs.ChunkLaws.{covers-run, covers-vector, value-run}
use Rattle.misled.specs.Known.{Quiet}
use Rattle.misled.proofs.FirstLaws.{first-vector}

-- a run of zeros, a run of no ones, and a vector of no ones
quiet-zeros : (w : ℕ) → w < 16384 → Quiet w
quiet-zeros w l =
    record {
      zeros = λ i k. value-run w i (omega arith) ∙ (let z : w / 16384 % 2 ≡ 0 = omega arith in z);
    }

quiet-empty : Quiet 16384
quiet-empty = record { zeros = λ i k. absurd (omega (arith, covers-run 16384 (omega arith))) }

quiet-vector : Quiet 32768
unfolding count_leading_zeros
quiet-vector =
    let c = covers-vector 32768 (omega arith) in
    let z : count_leading_zeros 32 (32768 * 2 ^ 17 % 2 ^ 32) ≡ 32 = refl in
    let f = first-vector 32768 0 (omega (arith, c)) (omega arith) in
    record { zeros = λ i k. f.zeros i (omega arith) (omega (arith, c, z)) k }

-- two numbers with the same highest bit have it in common
and_high : (k a b : ℕ) → a / 2 ^ k ≡ 1 → b / 2 ^ k ≡ 1 → bit_and a b / 2 ^ k ≡ 1
and_high k a b d e = and_shr a b k ∙ (rw (d, e))

-- a word's bits without the lowest one are those that it has in common with the number before it
module _ (w v : ℕ) (e : (v + 1) % 65536 ≡ w) (b : v < 65536) where
  -- no other word loses its highest bit
  high-kept : 16384 < w → (w ≡ 32768 → ⊥) → 16384 ≤ bit_and w v
  high-kept h n =
      either (ltb w 32768)
      (λ t. let l : w < 32768 = ltb-true _ _ t in omega (arith, and_high 14 w v (omega arith) (omega arith)))
      (λ t. let l : 32768 ≤ w = ltb-false _ _ t in omega (arith, and_high 15 w v (omega arith) (omega arith)))

  pub quiet-lowered : bit_and w v < 16384 → Quiet w
  quiet-lowered h =
      either (ltb w 16384)
      (λ t. quiet-zeros w (ltb-true _ _ t))
      (λ t. let l : 16384 ≤ w = ltb-false _ _ t in either (eqb w 16384)
      (λ y. rw (eqb-true w 16384 y) quiet-empty)
      (λ y. let m : w ≡ 16384 → ⊥ = eqb-false _ _ y in either (eqb w 32768)
      (λ z. rw (eqb-true w 32768 z) quiet-vector)
      (λ z. absurd (omega (arith, h, high-kept (omega arith) (eqb-false w 32768 z))))))
