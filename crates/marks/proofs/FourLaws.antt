-- Four marks as one number of 32 bits, a byte for each. Assumes nothing.
--     four_below                 it is at most 0x01010101
--     four_same, same-four       it tells that they are all m
--     gathered-lt                put side by side they are below 16
--     four-bits, fifteen-bits    four marks put side by side, and fifteen
use Prim.Native.Nat.{ℕ, zero, suc, ◌+◌, ◌*◌, ◌%◌, ◌^◌, ◌≤◌, ◌<◌}
use mathlib.Core.Path.{◌≡◌, sym, ap, ◌∙◌}
use mathlib.Core.List.{List}
use native.Mathlib.Omega.{arith}
use lib.ListN.{drop}
use lib.Seq.{get_or-drop, drop-drop}
use Rattle.def_wire.specs.Bytes.{byte_at, be32}
use Rattle.def_marks.specs.Marks.{bits_of}
use Rattle.marked.specs.Marked.{Marks}
use Rattle.marked.proofs.BitsLaws.{marks-drop, bits-zero, bits-head, bits-split, bits_below}
use Rattle.marks.specs.Gathered.{twos_of, fours_of, gathered, joined}

pub gathered-lt : (x : ℕ) → gathered x < 16
unfolding gathered
gathered-lt x = omega arith

-- one step each, where what it moves out of the way is small; and what is left
twos-of : (y r : ℕ) → r < 128 → twos_of (256 * y + r) ≡ 258 * y + r
twos-of y r h = omega arith

fours-of : (y r : ℕ) → r < 16384 → fours_of (65536 * y + r) ≡ 65540 * y + r
fours-of y r h = omega arith

left-of : (y r : ℕ) → r < 16 → (16 * y + r) % 16 ≡ r
left-of y r h = omega arith

-- of a number whose bytes are 0 or 1
gathered-is : (a b c d : ℕ) → a ≤ 1 → b ≤ 1 → c ≤ 1 → d ≤ 1
    → gathered ((a * 256 + b) * 65536 + (c * 256 + d)) ≡ a * 8 + b * 4 + c * 2 + d
unfolding gathered
gathered-is a b c d ha hb hc hd =
    let y : ℕ = a * 65536 + b * 256 + c in
    let z : ℕ = a * 258 + b in
    let r : ℕ = b * 512 + c * 258 + d in
    let s : ℕ = a * 8 + b * 4 + c * 2 + d in
    let e : (a * 256 + b) * 65536 + (c * 256 + d) ≡ 256 * y + d = omega arith in
    let f : 258 * y + d ≡ 65536 * z + r = omega arith in
    let g : 65540 * z + r ≡ 16 * (a * 1056832 + b * 4128 + c * 16) + s = omega arith in
    ap (λ (x : ℕ). fours_of (twos_of x) % 16) e ∙ ap (λ (x : ℕ). fours_of x % 16) (twos-of y d (omega arith) ∙ f)
    ∙ ap (λ (x : ℕ). x % 16) (fours-of z r (omega arith) ∙ g) ∙ left-of _ s (omega arith)

module _ (ms : List ℕ) (at : ℕ) where
  -- its bytes one by one
  flat : be32 ms at
      ≡ (byte_at ms at * 256 + byte_at ms (at + 1)) * 65536 + (byte_at ms (at + 2) * 256 + byte_at ms (at + 3))
  flat = let e : at + 2 + 1 ≡ at + 3 = omega arith in rw e

  -- a mark, and the bits behind it
  bits-from : (k i j : ℕ) → j ≡ i + 1 → bits_of (suc k) (drop i ms) ≡ byte_at ms i * 2 ^ k + bits_of k (drop j ms)
  bits-from k i j e =
      let z : i + 0 ≡ i = omega arith in
      bits-head k (drop i ms) ∙ (rw (get_or-drop i ms 0 0, drop-drop 1 i ms, z, e))

  spread : bits_of 4 (drop at ms)
      ≡ byte_at ms at * 8 + byte_at ms (at + 1) * 4 + byte_at ms (at + 2) * 2 + byte_at ms (at + 3)
  spread =
      let a = bits-from 3 at (at + 1) (omega arith) in
      let b = bits-from 2 (at + 1) (at + 2) (omega arith) in
      let c = bits-from 1 (at + 2) (at + 3) (omega arith) in
      let d = bits-from 0 (at + 3) (at + 4) (omega arith) in
      let z = bits-zero (drop (at + 4) ms) in
      omega arith

  -- all are m
  pub same-four : (m : ℕ) → ((j : ℕ) → j < 4 → byte_at ms (at + j) ≡ m) → be32 ms at ≡ m * 16843009
  same-four m same =
      let z : at + 0 ≡ at = omega arith in
      let a : byte_at ms at ≡ m = rw z at (same 0 (omega arith)) in
      let b = same 1 (omega arith) in
      let c = same 2 (omega arith) in
      let d = same 3 (omega arith) in
      omega (arith, flat)

  module _ (marks : Marks ms) where
    pub four_below : be32 ms at ≤ 16843009
    four_below =
        let a = marks at in
        let b = marks (at + 1) in
        let c = marks (at + 2) in
        let d = marks (at + 3) in
        omega (arith, flat)

    pub four_same : (m : ℕ) → m ≤ 1 → be32 ms at ≡ m * 16843009 → (j : ℕ) → j < 4 → byte_at ms (at + j) ≡ m
    four_same m one e =
        let a = marks at in
        let b = marks (at + 1) in
        let c = marks (at + 2) in
        let d = marks (at + 3) in
        let f = flat in
        let z : at + 0 ≡ at = omega arith in
        each-of-four (λ j. byte_at ms (at + j) ≡ m) (rw z (omega arith)) (omega arith) (omega arith) (omega arith)
      where
        each-of-four : (P : ℕ → Type 0) → P 0 → P 1 → P 2 → P 3 → (j : ℕ) → j < 4 → P j
        each-of-four P a b c d zero h = a
        each-of-four P a b c d (suc zero) h = b
        each-of-four P a b c d (suc (suc zero)) h = c
        each-of-four P a b c d (suc (suc (suc zero))) h = d
        each-of-four P a b c d (suc (suc (suc (suc j)))) h = absurd (omega arith)

    pub four-bits : gathered (be32 ms at) ≡ bits_of 4 (drop at ms)
    four-bits =
        ap gathered flat
        ∙ gathered-is (byte_at ms at) (byte_at ms (at + 1)) (byte_at ms (at + 2)) (byte_at ms (at + 3)) (marks at)
        (marks (at + 1)) (marks (at + 2)) (marks (at + 3))
        ∙ sym spread

-- k bits of the marks from a place on, and those behind them
bits-behind : (ms : List ℕ) (at j k to : ℕ) → to ≡ at + j
    → bits_of (j + k) (drop at ms) ≡ bits_of j (drop at ms) * 2 ^ k + bits_of k (drop to ms)
bits-behind ms at j k to e = bits-split j k (drop at ms) ∙ (rw (drop-drop j at ms, e))

pub fifteen-bits : (ms : List ℕ) (at : ℕ) {a b c d : ℕ} → Marks ms → a ≡ be32 ms at → b ≡ be32 ms (at + 4)
    → c ≡ be32 ms (at + 8) → d ≡ be32 ms (at + 11) → joined a b c d ≡ bits_of 15 (drop at ms)
fifteen-bits ms at marks p q r s =
    let a = bits-behind ms at 4 11 (at + 4) (omega arith) in
    let b = bits-behind ms (at + 4) 4 7 (at + 8) (omega arith) in
    let c = bits-behind ms (at + 8) 4 3 (at + 12) (omega arith) in
    let d = bits-behind ms (at + 11) 1 3 (at + 12) (omega arith) in
    let l : bits_of 3 (drop (at + 12) ms) < 8 = bits_below 3 (drop (at + 12) ms) (marks-drop (at + 12) ms marks) in
    rw (
      p,
      q,
      r,
      s,
      four-bits ms at marks,
      four-bits ms (at + 4) marks,
      four-bits ms (at + 8) marks,
      four-bits ms (at + 11) marks,
    )
    (omega arith)
