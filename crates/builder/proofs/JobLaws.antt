-- A record's kind: the block that it asks for. Assumes nothing.
use Rattle.std.specs.Prelude.{Option}
use Prim.Native.Nat.{ℕ, ◌+◌, ◌≤◌}
use mathlib.Core.Path.{◌≡◌, sym, ap}
use mathlib.Core.List.{List}
use lib.ListN.{length}
use Rattle.def_wire.specs.declared.Kind.{Kind}
use Rattle.laws.specs.Stores.{Wrote}
use Rattle.def_wire.specs.Block.{kind_of}
use Rattle.def_jobs.specs.declared.Layout.{Layout}
use Rattle.def_jobs.specs.Jobs.{Job}
use Rattle.def_jobs.specs.Layout.{bytes_as, block_bytes}

-- the block's bytes by the kind: the room for them, and their stores
module _ (layout : Layout) (j : Job) {k : Option Kind} (e : kind_of j.kind ≡ k) where
  block-is : bytes_as k layout j ≡ block_bytes layout j
  unfolding block_bytes
  block-is = sym (ap (λ (x : Option Kind). bytes_as x layout j) e)

  pub block_room : (at n : ℕ) → at + length (block_bytes layout j) ≤ n → at + length (bytes_as k layout j) ≤ n
  block_room at n h = rw block-is h

  pub block-wrote : {l m : List ℕ} {at n : ℕ} → Wrote l at (bytes_as k layout j) m n
      → Wrote l at (block_bytes layout j) m n
  block-wrote w = rw (← block-is) w
