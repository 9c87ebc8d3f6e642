-- The fields of types 1 to 3, from a block's first four bytes and the next eight, held as numbers. Assumes nothing.
use Prim.Native.Nat.{ℕ, ◌/◌}
use mathlib.Core.Path.{◌≡◌}
use native.Mathlib.Omega.{arith}
use Rattle.def_wire.specs.Bytes.{be16, be32, two, four}
use Rattle.states.specs.declared.Known.{Known}
use Rattle.states.specs.Steps.{low16, low32, high32, thinning_in, fields_in}

-- a number's bytes read back
two-held : (h : ℕ) → be16 (two h) 0 ≡ low16 h
two-held h = omega arith

four-held : (h : ℕ) → be32 (four h) 0 ≡ low32 h
four-held h = omega arith

pub fields-held : (k : Known) (h : ℕ)
    → record { ssrc = high32 h; begin = low16 (h / 65536); end = low16 h; thinning = thinning_in k } ≡ fields_in k h
fields-held k h = rw (four-held (h / 4294967296), two-held (h / 65536), two-held h)
