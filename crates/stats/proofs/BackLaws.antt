-- What a summary's flags and numbers show is the summary again. Assumes nothing.
--     summary-back     `summary_from` of `flags_of` and `sums_of`
use Rattle.std.specs.Prelude.{Option, Some, None}
use Prim.Native.Nat.{ℕ, ◌+◌, ◌*◌, ◌/◌, ◌%◌, ◌≤◌}
use mathlib.Core.Path.{◌≡◌, refl}
use native.Mathlib.Omega.{arith}
use Rattle.def_wire.specs.declared.Spread.{Spread}
use Rattle.def_wire.specs.declared.HopsOr.{HopsOr}
use Rattle.def_wire.specs.declared.HopsOr.TheVariants.{NoHops, Ttl, HopLimit, Unknown}
use Rattle.def_wire.specs.declared.Summary.{Summary}
use Rattle.def_wire.specs.Summary.{is_set, toh_in, count_if, jitter_if, hops_by, count_flag, jitter_flag, toh_of, given_of}
use Rattle.def_wire.specs.Summary.{jitter_of, hops_of, summary_from, flags_of, sums_of}

low_digit : (x f : ℕ) → f ≤ 1 → (2 * x + f) % 2 ≡ f
low_digit x f h = omega arith

-- each flag is its bit or nothing
abbrev bit_of : Option ℕ → ℕ
bit_of (Some n) = 1
bit_of None = 0

flag-bit : (bit : ℕ) (c : Option ℕ) → count_flag bit c ≡ bit * bit_of c
flag-bit bit (Some n) = omega arith
flag-bit bit None = omega arith

bit-small : (c : Option ℕ) → bit_of c ≤ 1
bit-small (Some n) = omega arith
bit-small None = omega arith

abbrev jitter_bit : Option Spread → ℕ
jitter_bit (Some x) = 1
jitter_bit None = 0

jitter-flag : (j : Option Spread) → jitter_flag j ≡ 32 * jitter_bit j
jitter-flag (Some x) = refl
jitter-flag None = refl

jitter-small : (j : Option Spread) → jitter_bit j ≤ 1
jitter-small (Some x) = omega arith
jitter-small None = omega arith

toh-small : (h : HopsOr) → toh_of h ≤ 3
toh-small NoHops = omega arith
toh-small (Ttl x) = omega arith
toh-small (HopLimit x) = omega arith
toh-small Unknown = omega arith

-- and is found again, whatever stands above and below it
count-back : (bit n : ℕ) (c : Option ℕ) → n / bit % 2 ≡ bit_of c → count_if (is_set bit n) (given_of c) ≡ c
count-back bit n (Some x) e = rw e
count-back bit n None e = rw e

jitter-back : (n : ℕ) (j : Option Spread) → n / 32 % 2 ≡ jitter_bit j → jitter_if (is_set 32 n) (jitter_of j) ≡ j
jitter-back n (Some x) e = rw e
jitter-back n None e = rw e

hops-back : (n : ℕ) (h : HopsOr) → toh_in n ≡ toh_of h → hops_by (toh_in n) (hops_of h) ≡ h
hops-back n NoHops e = rw e
hops-back n (Ttl x) e = rw e
hops-back n (HopLimit x) e = rw e
hops-back n Unknown e = rw e

-- the digits of four flags
module _ (p q r t n : ℕ) (hp : p ≤ 1) (hq : q ≤ 1) (hr : r ≤ 1) (ht : t ≤ 3)
    (e : n ≡ 128 * p + 64 * q + 32 * r + t * 8) where
  lost-digit : n / 128 % 2 ≡ p
  lost-digit = let k : n / 128 ≡ p = omega arith in rw k (omega arith)

  duplicates-digit : n / 64 % 2 ≡ q
  duplicates-digit = let k : n / 64 ≡ 2 * p + q = omega arith in rw k (low_digit p q hq)

  jitter-digit : n / 32 % 2 ≡ r
  jitter-digit = let k : n / 32 ≡ 2 * (2 * p + q) + r = omega arith in rw k (low_digit (2 * p + q) r hr)

  toh-digit : n / 8 % 4 ≡ t
  toh-digit = let k : n / 8 ≡ 4 * (4 * p + 2 * q + r) + t = omega arith in rw k (omega arith)

pub summary-back : (s : Summary) → summary_from (flags_of s) (sums_of s) ≡ s
unfolding summary_from flags_of sums_of
summary-back s =
    let n = count_flag 128 s.lost + count_flag 64 s.duplicates + jitter_flag s.jitter + toh_of s.hops * 8 in
    let p = bit_of s.lost in
    let q = bit_of s.duplicates in
    let r = jitter_bit s.jitter in
    let t = toh_of s.hops in
    let e : n ≡ 128 * p + 64 * q + 32 * r + t * 8 = rw (
      flag-bit 128 s.lost,
      flag-bit 64 s.duplicates,
      jitter-flag s.jitter,
    ) in
    let hp = bit-small s.lost in
    let hq = bit-small s.duplicates in
    let hr = jitter-small s.jitter in
    let ht = toh-small s.hops in
    rw (
      count-back 128 n s.lost (lost-digit p q r t n hp hq hr ht e),
      count-back 64 n s.duplicates (duplicates-digit p q r t n hp hq hr ht e),
      jitter-back n s.jitter (jitter-digit p q r t n hp hq hr ht e),
      hops-back n s.hops (toh-digit p q r t n hp hq hr ht e),
    )
