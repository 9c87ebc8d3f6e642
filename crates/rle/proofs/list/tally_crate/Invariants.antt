-- `rle::list::tally_crate` meets its contract: what is counted and what is to be listed make up the whole. Assumes
-- nothing.
use Prim.Native.Nat.{◌*◌, ◌<◌}
use mathlib.Core.Path.{◌≡◌}
use Rattle.laws.proofs.Filling.{Counting}
use Rattle.def_wire.specs.Bytes.{words16}
use Rattle.def_crate.specs.Crate.{crate_numbers_from}
use Rattle.range.specs.Failing.{first_fail}
use Rattle.rle.specs.Runs.{here}
use Rattle.rle.proofs.list.tally_crate.Given as goal

abbrev pub invariant-loop-word : goal.invariant-loop-word
invariant-loop-word l =
    (l.start < 65536) × (l.first ≡ first_fail l.start l.end l.thinning)
    × Counting (crate_numbers_from l.end l.thinning l.begin (words16 l.bytes))
    (here l.end l.thinning l.bytes (2 * l.word-index) l.start) l.n
