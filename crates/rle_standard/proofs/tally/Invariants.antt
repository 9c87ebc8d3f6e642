-- `rle_standard::tally` meets its contract: what is counted and what is still to be listed make up the whole, for
-- every range with as many positions inside; and a run of no length is among the words gone through, or behind them.
-- Assumes nothing.
use Prim.Native.Nat.{ℕ, ◌*◌, ◌≤◌}
use mathlib.Core.Path.{◌≡◌}
use mathlib.Core.Bool.{Bool}
use mathlib.Core.List.{List}
use lib.ListN.{drop}
use Rattle.laws.proofs.Filling.{Counting}
use Rattle.def_wire.specs.Bytes.{words16}
use Rattle.def_wire.specs.Block.{lost_run}
use Rattle.def_standard.specs.declared.Range.{Range}
use Rattle.def_standard.specs.Standard.{numbers_of}
use Rattle.range.specs.Inside.{inside_count}
use Rattle.word_scan.proofs.ScanLaws.{Seen}
use Rattle.rle_standard.proofs.StandardTurn.{here}
use Rattle.rle_standard.proofs.tally.Given as goal

-- n are counted of a range that has `left` positions inside from here on
abbrev pub Counts : Range → List ℕ → ℕ → ℕ → ℕ → Type 0
Counts g bytes left at n = (left ≤ inside_count g) × Counting (numbers_of g (words16 bytes)) (here g bytes at left) n

-- a run of no length is among the words before an index, or from there on
abbrev pub Looked : List ℕ → ℕ → Bool → Type 0
Looked bytes at lost = Seen lost_run (words16 bytes) (words16 (drop at bytes)) lost

abbrev pub invariant-loop-i : goal.invariant-loop-i
invariant-loop-i l =
    ((g : Range) → l.initial.left ≡ inside_count g → Counts g l.bytes l.left (2 * l.i) l.n) × Looked l.bytes (2 * l.i) l.lost
