-- How long the blocks of some records are, and a packet. Assumes nothing.
--     length-blocks, ..     of the first record's block and the others
--     length-padding        of the padding
--     length-layout         of a packet
use Prim.Native.Nat.{ℕ, zero, suc, ◌+◌}
use mathlib.Core.Path.{◌≡◌, refl}
use mathlib.Core.List.{List, [], ◌∷◌}
use native.Mathlib.Omega.{arith}
use lib.ListN.{length, replicate, length-append, length-replicate}
use Rattle.def_jobs.specs.declared.Layout.{Layout}
use Rattle.def_jobs.specs.Jobs.{Job, asked_padding}
use Rattle.def_jobs.specs.Layout.{block_bytes, blocks_bytes, padding_bytes, layout_of}

pub length-blocks : (layout : Layout) (j : Job) (js : List Job)
    → length (blocks_bytes layout (j ∷ js)) ≡ length (block_bytes layout j) + length (blocks_bytes layout js)
unfolding blocks_bytes
length-blocks layout j js = length-append (block_bytes layout j) (blocks_bytes layout js)

pub length-blocks-none : (layout : Layout) → length (blocks_bytes layout []) ≡ 0
unfolding blocks_bytes
length-blocks-none layout = refl

pub length-padding : (n : ℕ) → length (padding_bytes n) ≡ n
length-padding zero = refl
length-padding (suc n) =
    omega (arith, length-append (replicate n 0) (suc n ∷ []), length-replicate {A = ℕ} n 0)

pub length-layout : (layout : Layout) (h : Job) (js : List Job)
    → length (layout_of layout (h ∷ js)) ≡ 8 + asked_padding h + length (blocks_bytes layout js)
unfolding layout_of
length-layout layout h js =
    omega (
      arith,
      length-append (blocks_bytes layout js) (padding_bytes (asked_padding h)),
      length-padding (asked_padding h),
    )
