-- What is taken from a block's four header bytes is the view's own. Assumes nothing.
use Prim.Native.Nat.{ℕ, ◌+◌, ◌*◌}
use mathlib.Core.Path.{◌≡◌, ap, ◌∙◌}
use mathlib.Core.List.{List}
use lib.ListN.{get_or}
use Rattle.def_wire.specs.Block.{header_data, type_of, specific_of, block_length}

module _ (v h : List ℕ) (e : h ≡ header_data v) where
  pub type-taken : (t : ℕ) → t ≡ get_or h 0 0 → t ≡ type_of v
  type-taken t k = k ∙ ap (λ (x : List ℕ). get_or x 0 0) e

  pub specific-taken : (b : ℕ) → b ≡ get_or h 1 0 → b ≡ specific_of v
  specific-taken b k = k ∙ ap (λ (x : List ℕ). get_or x 1 0) e

  pub length_taken : (l : ℕ) → l ≡ (get_or h 2 0 * 256 + get_or h 3 0 + 1) * 4 → l ≡ block_length v
  length_taken l k = k ∙ ap (λ (x : List ℕ). (get_or x 2 0 * 256 + get_or x 3 0 + 1) * 4) e
