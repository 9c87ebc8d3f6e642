-- A list of bytes as arrays of two. Assumes nothing.
--     pair_at      the array at an index
--     be16-pair    its number
use Rattle.std.proofs.Common.{◌≡◌, ℕ, zero, suc, ◌+◌, ◌*◌, ◌<◌, List, [], get_or, take, drop, refl, ap, ◌∙◌, add-zero, arith, drop-drop, w16}
use Rattle.std.specs.Int.{from_be_bytes}
use Rattle.std.specs.Simd.{first_chunks}
use Rattle.def_wire.specs.Bytes.{be16}
use Rattle.utils.proofs.BytesLaws.{be16-part}

pub pair_at : (k : ℕ) (s : List ℕ) (i : ℕ) → i < k → get_or (first_chunks 2 k s) i [] ≡ take 2 (drop (2 * i) s)
pair_at zero s i h = absurd (omega arith)
pair_at (suc k) s zero h = refl
pair_at (suc k) s (suc i) h =
    let e : 2 * suc i ≡ 2 + 2 * i = omega arith in rw (e, ← drop-drop) (pair_at k (drop 2 s) i (omega arith))

pub be16-pair : (k : ℕ) (s : List ℕ) (i : ℕ) → i < k
    → from_be_bytes w16 (get_or (first_chunks 2 k s) i []) ≡ be16 s (2 * i)
be16-pair k s i h = rw (pair_at k s i h) (be16-part (2 * i) 2 s 0 (omega arith) ∙ ap (be16 s) (add-zero (2 * i)))
