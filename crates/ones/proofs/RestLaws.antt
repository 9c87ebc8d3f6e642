-- The places of a word from one on are those of another word, `rest_of`: what they list. Assumes nothing.
use Rattle.std.proofs.Common.{◌≡◌, ℕ, zero, suc, ◌+◌, ◌-◌, ◌*◌, ◌/◌, ◌%◌, ◌^◌, ◌<◌, ◌≤◌, min, ltb, ◌++◌, take, drop, replicate, sym, refl, ap, ◌∙◌, arith, drop_at, ltb-false, ltb-true, le-ltb, lt-ltb}
use native.Mathlib.Nat.{mul-mod_left}
use lib.Pow.{shl-shr}
use Rattle.laws.proofs.Tests.{either}
use Rattle.utils.proofs.PartLaws.{drop-cut}
use Rattle.def_standard.specs.Chunks.{values_in}
use Rattle.chunk.proofs.ChunkLaws.{values-run, length-values_in, covers-vector}
use Rattle.ones.specs.Along.{along}
use Rattle.ones.specs.Places.{rest_of}
use Rattle.ones.proofs.ListingLaws.{along-padded}
use Rattle.ones.proofs.DigitLaws.{digits, length_digits, digits_append, digits_mod, digits-zero, digits-all}

drop-replicate : (q n a : ℕ) → drop q (replicate n a) ≡ replicate (n - q) a
drop-replicate zero n a = let e : n - 0 ≡ n = omega arith in rw e
drop-replicate (suc q) zero a = let e : 0 - suc q ≡ 0 = omega arith in rw e
drop-replicate (suc q) (suc n) a = let e : suc n - suc q ≡ n - q = omega arith in rw e (drop-replicate q n a)

-- the digits of a number that is shifted, and those behind the first
digits-shifted : (n k v : ℕ) → digits (n + k) (v * 2 ^ k) ≡ digits n v ++ replicate k 0
digits-shifted n k v =
    let low : digits k (v * 2 ^ k) ≡ replicate k 0 =
    sym (digits_mod k k (v * 2 ^ k) (omega arith)) ∙ ap (digits k) (mul-mod_left v (2 ^ k)) ∙ digits-zero k in
    digits_append n k (v * 2 ^ k) ∙ (rw (shl-shr v k, low))

digits-drop : (k n v : ℕ) → drop k (digits (k + n) v) ≡ digits n v
digits-drop k n v =
    rw (digits_append k n v) (drop_at (digits k (v / 2 ^ n)) (digits n v) k (length_digits k (v / 2 ^ n)))

module _ (w q : ℕ) where
  pub rest-run : w < 32768 → rest_of w q ≡ w - min q (w % 16384)
  unfolding rest_of
  rest-run h = rw (lt-ltb w 32768 h)

  pub rest-vector : 32768 ≤ w → rest_of w q ≡ 32768 + w * 2 ^ min q 15 % 32768
  unfolding rest_of
  rest-vector h = rw (le-ltb w 32768 h)

  -- a run is shorter
  values-run-rest : w < 32768 → values_in (rest_of w q) ≡ drop q (values_in w)
  values-run-rest h =
      let r = w - min q (w % 16384) in
      let a : r / 16384 % 2 ≡ w / 16384 % 2 = omega arith in
      let b : r % 16384 ≡ w % 16384 - q = omega arith in
      rw (rest-run h, values-run r (omega arith), values-run w h, a, b)
      (sym (drop-replicate q (w % 16384) (w / 16384 % 2)))

  -- a vector ends in zeros
  values-vector-rest : 32768 ≤ w → values_in (rest_of w q) ≡ drop q (values_in w) ++ replicate (min q 15) 0
  values-vector-rest h =
      let k = min q 15 in
      let x = w * 2 ^ k % 32768 in
      let up : 15 ≡ 15 - k + k = omega arith in
      let off : 15 ≡ k + (15 - k) = omega arith in
      let bits : digits 15 (32768 + x) ≡ digits 15 (w * 2 ^ k) =
      sym (digits_mod 15 15 (32768 + x) (omega arith))
      ∙ ap (digits 15) (let e : (32768 + x) % 2 ^ 15 ≡ w * 2 ^ k % 2 ^ 15 = omega arith in e)
      ∙ digits_mod 15 15 (w * 2 ^ k) (omega arith) in
      let front : drop q (values_in w) ≡ digits (15 - k) w =
      sym (drop-cut (values_in w) q k (rw (length-values_in w, covers-vector w h) refl))
      ∙ (rw (digits-all w h) (ap (λ (n : ℕ). drop k (digits n w)) off ∙ digits-drop k (15 - k) w)) in
      rw (rest-vector h, digits-all (32768 + x) (omega arith), front)
      (bits ∙ ap (λ (n : ℕ). digits n (w * 2 ^ k)) up ∙ digits-shifted (15 - k) k w)

-- they list the same
pub along-rest : (step first m w q : ℕ)
    → along step first (take m (values_in (rest_of w q))) ≡ along step first (take m (drop q (values_in w)))
along-rest step first m w q =
    either (ltb w 32768)
    (λ t. rw (values-run-rest w q (ltb-true _ _ t)))
    (λ f. rw (values-vector-rest w q (ltb-false _ _ f)) (along-padded step first m (drop q (values_in w)) (min q 15)))
