-- `write::put` meets its contract: 11, or the packet is laid out.
use Prim.Native.Nat.{ℕ}
use mathlib.Core.Path.{refl, ap, ◌∙◌}
use mathlib.Core.List.{◌++◌}
use native.Mathlib.Omega.{arith}
use lib.ListN.{drop}
use Rattle.def_jobs.specs.Jobs.{jobs_of}
use Rattle.def_jobs.specs.Layout.{layout_of}
use Rattle.packet_size.proofs.SizeLaws.{size-done}
use Rattle.laws.proofs.Answering.{listed, full}
use Rattle.write.proofs.put.Goals as goal

pub returns-then-out-size : goal.returns-then-out-size
returns-then-out-size c = let a = c.args in
    let z = size-done a.layout (jobs_of a.list.now) a.size c.requires in
    full _ a.out.now (layout_of a.layout (jobs_of a.list.now)) a.size refl z.size c.if-out-size.true

pub lay_out-requires : goal.lay_out-requires
lay_out-requires c = (c.requires, c.if-out-size.false)

pub returns : goal.returns
returns c = let a = c.args in
    let z = size-done a.layout (jobs_of a.list.now) a.size c.requires in
    let l = layout_of a.layout (jobs_of a.list.now) in
    listed _ a.out.now l _ a.size refl (omega (arith, z.size, c.if-out-size.false))
    (z.size, c.lay_out.ensures ∙ ap (λ (n : ℕ). l ++ drop n a.out.now) z.size)
