-- `dump::blocks` meets its contract: the blocks of an accepted packet, one after the other.
use mathlib.Core.Path.{sym, ap, ◌∙◌}
use native.Mathlib.Nat.{sub-zero}
use Rattle.xr.proofs.WalkLaws.{place-zero}
use Rattle.def_dump.specs.Dump.{blocks_text}
use Rattle.print.proofs.AddedLaws.{start, skip, next, done}
use Rattle.dump.proofs.DumpLaws.{place_after, blocks-next, blocks_end}
use Rattle.dump.proofs.blocks.Goals as goal

pub loop-k-init : goal.loop-k-init
loop-k-init c = let a = c.args in (
  sym (place-zero a.packet.now),
  skip (ap (blocks_text a.r a.packet.now 0) (sym (sub-zero a.count))) start,
)

pub loop-k-preserved : goal.loop-k-preserved
loop-k-preserved c = let e = c.loop-k in
    let a = c.args in
    let h = c.loop-k-test.true in (
      c.moved_from-place.ensures ∙ place_after a.r a.packet.now a.count e.k e.place c.requires h e.invariant.0,
      next (blocks-next a.r a.packet.now a.count e.k e.place _ h e.invariant.0
          c.view_from.ensures.0)
          c.one_block-n.ensures e.invariant.1,
    )

pub returns : goal.returns
returns c = let a = c.args in
    done (blocks_end a.r a.packet.now a.count c.loop-k.k c.loop-k-test.false)
    c.loop-k.invariant.1
