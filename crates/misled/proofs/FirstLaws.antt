-- The first one of a word from a place on, by kinds. Assumes nothing.
--     first-zeros, first-ones     of a run
--     first-vector                of a vector: its leading zeros, when the places before are shifted out
use Rattle.std.proofs.Common.{◌≡◌, ℕ, suc, ◌+◌, ◌-◌, ◌*◌, ◌/◌, ◌%◌, ◌^◌, ◌<◌, ◌≤◌, sym, ap, ◌∙◌, mod-lt, pow-suc, arith, lit<, pow_mono, shr-shr}
use native.Mathlib.Nat.{div-eq_of_lt}
use lib.Pow.{shl-shr, field, mod-mod-pow, high}
use lib.Count.{count_leading_zeros, leading_length}
use Rattle.def_standard.specs.Chunks.{covers_of, value_of}
use Rattle.chunk.proofs.ChunkLaws.{covers-run, covers-vector, value-run, value-vector}
use Rattle.misled.specs.Known.{FirstOne}

module _ (w place : ℕ) (h : place < covers_of w) where
  module _ (v : 32768 ≤ w) where
    -- the places from the asked one on, in the highest bits of 32
    abbrev bits : ℕ
    bits = w * 2 ^ (17 + place) % 2 ^ 32

    -- a place's value, there
    value_shifted : (i e : ℕ) → i < 15 → e ≡ 17 + place + (14 - i) → e < 32 → value_of w i ≡ bits / 2 ^ e % 2
    value_shifted i e l k s =
        let n = w * 2 ^ (17 + place) in
        let t : 32 ≡ 31 - e + 1 + e = omega arith in
        let a : bits / 2 ^ e % 2 ≡ n / 2 ^ e % 2 =
        ap (λ (x : ℕ). n % 2 ^ x / 2 ^ e % 2) t
        ∙ (rw (field n (31 - e + 1) e) (mod-mod-pow (n / 2 ^ e) (31 - e) 1)) in
        let b : n / 2 ^ e ≡ w / 2 ^ (14 - i) = rw (k, ← shr-shr n (17 + place) (14 - i), shl-shr w (17 + place)) in
        value-vector w i v ∙ sym (a ∙ ap (λ (x : ℕ). x % 2) b)

    pub first-vector : FirstOne w place (place + count_leading_zeros 32 bits)
    first-vector =
        let t = leading_length 32 bits (mod-lt (w * 2 ^ (17 + place)) (lit< tt)) in
        let z = count_leading_zeros 32 bits in
        let c = covers-vector w v in
        record {
          from = omega arith;
          zeros = λ i a b d.
              let e = 17 + place + (14 - i) in
              let m : 2 ^ t.0 ≤ 2 ^ e = pow_mono (let k : t.0 ≤ e = omega (arith, t.1) in k) in
              let f : bits < 2 ^ e = omega (arith, t.2) in
              value_shifted i e (omega arith) (omega arith) (omega arith) ∙ (rw (div-eq_of_lt f));
          one = λ k.
              let e = 17 + place + (14 - (place + z)) in
              let n : t.0 ≡ suc e = omega (arith, t.1) in
              let p = ap (λ (x : ℕ). 2 ^ x) n ∙ pow-suc 2 e in
              let b : bits ≡ 1 * 2 ^ e + (bits - 2 ^ e) = omega (arith, p, t.3) in
              let d : bits / 2 ^ e ≡ 1 = ap (λ (x : ℕ). x / 2 ^ e) b ∙ high 1 e (omega (arith, p, t.2)) in
              value_shifted (place + z) e (omega arith) (omega arith) (omega (arith, t.1)) ∙ (rw d);
        }
