-- A position's number. Assumes nothing.
--     number_of-zero       position 0 has the number begin
--     number_of-on         a place's number, tried from position p's, is that of the position as many on
--     number_of-moved      and so is the start that has moved as far
--     number_of-circle     it hangs on the position's place on the circle alone
use Rattle.std.proofs.Common.{◌≡◌, ℕ, ◌+◌, ◌*◌, ◌/◌, ◌%◌, ◌^◌, ◌<◌, sym, ap, ◌∙◌, mod-eq_of_lt, arith}
use native.Mathlib.Nat.{add-mul-mod_self_left, div-add-mod}
use Rattle.def_standard.specs.declared.Range.{Range}
use Rattle.def_standard.specs.Range.{offset_of, number_of}
use Rattle.def_crate.specs.Sequence.{sequence_of, moved_by}
use Rattle.range.proofs.SequenceLaws.{moved-sequence}

module _ (g : Range) where
  pub number_of-zero : g.begin < 65536 → number_of g 0 ≡ g.begin
  unfolding number_of offset_of
  number_of-zero h = let z : g.begin + 0 * 2 ^ g.thinning ≡ g.begin = omega arith in rw z (mod-eq_of_lt h)

  pub number_of-on : (p q : ℕ) → sequence_of q (number_of g p) g.thinning ≡ number_of g (p + q)
  unfolding number_of offset_of
  number_of-on p q =
      let m = 2 ^ g.thinning in
      let e : (p + q) * m ≡ p * m + q * m = omega arith in
      let k : (q * m % 65536 + (g.begin + p * m) % 65536) % 65536 ≡ (g.begin + (p * m + q * m)) % 65536 =
      omega arith in
      rw e k

  pub number_of-moved : (p n : ℕ) → number_of g (p + n) ≡ moved_by n g.thinning (number_of g p)
  number_of-moved p n = sym (moved-sequence n g.thinning (number_of g p) ∙ number_of-on p n)

  pub number_of-circle : (p q : ℕ) → number_of g (p % 65536 + q) ≡ number_of g (p + q)
  unfolding number_of offset_of
  number_of-circle p q =
      let t = 2 ^ g.thinning in
      let n = p / 65536 in
      let r = p % 65536 in
      let e : g.begin + (65536 * n + r + q) * t ≡ g.begin + (r + q) * t + 65536 * (n * t) = omega arith in
      sym (ap (λ (x : ℕ). (g.begin + (x + q) * t) % 65536) (sym (div-add-mod p 65536))
      ∙ ap (λ (x : ℕ). x % 65536) e ∙ add-mul-mod_self_left (g.begin + (r + q) * t) 65536 (n * t))
