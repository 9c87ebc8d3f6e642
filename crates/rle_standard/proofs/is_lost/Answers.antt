-- `rle_standard::is_lost` meets its contract: found before, or from an index on. Assumes nothing.
use Prim.Native.Nat.{◌≤◌}
use mathlib.Core.Path.{ap, ◌∙◌}
use native.Mathlib.Omega.{arith}
use lib.ListN.{length, drop, length-drop}
use lib.Seq.{take_all}
use Rattle.def_wire.specs.Bytes.{words16}
use Rattle.def_wire.specs.Block.{lost_run, has}
use Rattle.rle_standard.proofs.is_lost.Goals as goal

pub returns : goal.returns
returns c = let a = c.args in
    let b = a.bytes.now in
    let l : length (drop a.at b) ≤ length b = omega (arith, length-drop a.at b) in
    rw c.if-lost.false (c.has_lost_run.ensures
    ∙ ap (λ s. has lost_run (words16 s)) (c.part.ensures.result_value ∙ take_all (length b) (drop a.at b) l))
