-- The header of a packet of n bytes of padding, the sender x and blocks: it is accepted, and the blocks end before the
-- padding. Assumes nothing.
use Rattle.std.specs.Prelude.{Ok}
use Prim.Native.Nat.{ℕ, zero, suc, ◌+◌, ◌-◌, ◌/◌, ◌%◌, ◌≤◌, ◌<◌}
use mathlib.Core.Path.{◌≡◌, refl, ◌∙◌}
use mathlib.Core.Bool.{true, false, cond}
use mathlib.Core.List.{List, [], ◌∷◌, ◌++◌}
use native.Mathlib.Omega.{arith}
use lib.ListN.{length, replicate, length-append, length-replicate}
use lib.Dec.{eqb-suc-zero}
use borrow.Author.Tests.{eq-eqb, ne_eqb, le-ltb}
use Rattle.def_wire.specs.declared.Reading.{Reading}
use Rattle.def_wire.specs.declared.Reading.TheVariants.{Standard}
use Rattle.def_wire.specs.Bytes.{byte_at, two, four}
use Rattle.def_wire.specs.Packet.{version_of, is_padded, announced_of, padding_of, is_bad_padding, ssrc_of, least_of, stop_of}
use Rattle.def_wire.specs.Packet.{header_of}
use Rattle.def_jobs.specs.Layout.{padding_bytes, first_byte}
use Rattle.def_jobs.specs.Writing.{max_bytes}
use Rattle.utils.proofs.BytesLaws.{be16-two, be32-four}
use Rattle.written.proofs.Lists.{last_of, last-behind}

-- the packet of a header record that asks for n bytes of padding and the sender x
abbrev pub around : ℕ → ℕ → List ℕ → List ℕ
around n x blocks =
    first_byte n ∷ 207 ∷ two ((4 + length blocks + n) / 4) ++ (four x ++ (blocks ++ padding_bytes n))

length-padding : (n : ℕ) → length (padding_bytes n) ≡ n
length-padding zero = refl
length-padding (suc n) = omega (arith, length-append (replicate n 0) (suc n ∷ []), length-replicate {A = ℕ} n 0)

last-padding : (n : ℕ) → last_of (padding_bytes (suc n)) ≡ suc n
last-padding n = last-behind (replicate n 0) (suc n ∷ []) (omega arith)

module _ (n x : ℕ) (blocks : List ℕ) where
  pub length-around : length (around n x blocks) ≡ 8 + length blocks + n
  length-around = omega (arith, length-append blocks (padding_bytes n), length-padding n)

  pub sender-around : x < 4294967296 → ssrc_of (around n x blocks) ≡ x
  sender-around h = be32-four x (blocks ++ padding_bytes n) h

  module _ (p : n % 4 ≡ 0) (b : length blocks % 4 ≡ 0) (small : length (around n x blocks) ≤ max_bytes) where
    announced-around : announced_of (around n x blocks) ≡ length (around n x blocks)
    announced-around =
        let l = length-around in
        let w : (4 + length blocks + n) / 4 < 65536 = omega arith in
        omega (arith, be16-two ((4 + length blocks + n) / 4) (four x ++ (blocks ++ padding_bytes n)) w)

-- with padding the last byte counts it, and bit P is set
last-around : (n x : ℕ) (blocks : List ℕ) → padding_of (around (suc n) x blocks) ≡ suc n
last-around n x blocks =
    last-behind (first_byte (suc n) ∷ 207 ∷ two ((4 + length blocks + suc n) / 4) ++ four x)
    (blocks ++ padding_bytes (suc n))
    (omega (arith, length-append blocks (padding_bytes (suc n)), length-padding (suc n)))
    ∙ last-behind blocks (padding_bytes (suc n)) (omega (arith, length-padding (suc n))) ∙ last-padding n

padded-around : (n x : ℕ) (blocks : List ℕ) → is_padded (around (suc n) x blocks) ≡ true
padded-around n x blocks = rw (eqb-suc-zero n)

version-around : (n x : ℕ) (blocks : List ℕ) → version_of (around n x blocks) ≡ 2
version-around zero x blocks = refl
version-around (suc n) x blocks = rw (eqb-suc-zero n)

good-padding : (n len : ℕ) → 0 < n → n % 4 ≡ 0 → n + 8 ≤ len → is_bad_padding n len ≡ false
good-padding n len p m h =
    let z : n ≡ 0 → ⊥ = omega arith in
    let l : n ≤ len - 8 = omega arith in
    rw (ne_eqb _ _ z, eq-eqb _ _ m, le-ltb _ _ l)

-- 5 does not apply
fine-padding : (n x : ℕ) (blocks : List ℕ) → n % 4 ≡ 0
    → cond (is_padded (around n x blocks)) (is_bad_padding (padding_of (around n x blocks)) (length (around n x blocks)))
    false ≡ false
fine-padding zero x blocks p = refl
fine-padding (suc n) x blocks p =
    rw (padded-around n x blocks, last-around n x blocks)
    (good-padding (suc n) (length (around (suc n) x blocks)) (omega arith) p
    (omega (arith, length-around (suc n) x blocks)))

header-accepted : (r : Reading) (s : List ℕ) → least_of r ≤ length s → version_of s ≡ 2 → byte_at s 1 ≡ 207
    → announced_of s ≡ length s → cond (is_padded s) (is_bad_padding (padding_of s) (length s)) false ≡ false
    → header_of r s ≡ Ok (stop_of r s)
unfolding header_of
header-accepted r s h v t l p = rw (le-ltb _ _ h, eq-eqb _ _ v, eq-eqb _ _ t, eq-eqb _ _ l, p)

-- it is accepted, where it has the reading's least bytes
pub header-around : (r : Reading) (n x : ℕ) (blocks : List ℕ) → n % 4 ≡ 0 → length blocks % 4 ≡ 0
    → length (around n x blocks) ≤ max_bytes → least_of r ≤ length (around n x blocks)
    → header_of r (around n x blocks) ≡ Ok (stop_of r (around n x blocks))
header-around r n x blocks p b small least =
    header-accepted r (around n x blocks) least (version-around n x blocks) refl
    (announced-around n x blocks p b small) (fine-padding n x blocks p)

-- and the blocks end before the padding
pub stop-around : (n x : ℕ) (blocks : List ℕ) → stop_of Standard (around n x blocks) ≡ 8 + length blocks
stop-around zero x blocks = omega (arith, length-around 0 x blocks)
stop-around (suc n) x blocks =
    rw (padded-around n x blocks, last-around n x blocks) (omega (arith, length-around (suc n) x blocks))
