-- `portions::put_whole` meets its contract.
use mathlib.Core.Path.{ap}
use native.Mathlib.Omega.{arith}
use Rattle.def_portions.specs.Events.{block_events}
use Rattle.event_lists.proofs.LaidLaws.{laid_as, same-room}
use Rattle.portions.proofs.TurnLaws.{whole_room, whole-stored}
use Rattle.portions.proofs.put_whole.Goals as goal

pub put_block-past-requires : goal.put_block-past-requires
put_block-past-requires c =
    let r = whole_room c.requires.whole_at c.saturating_sub.ensures c.next_block-next.ensures c.args.n _ c.requires.x_bound in
    rw c.part.ensures.result_value (omega (arith, r))

pub put_end-all-requires : goal.put_end-all-requires
put_end-all-requires c =
    let r = whole_room c.requires.whole_at c.saturating_sub.ensures c.next_block-next.ensures c.args.n _ c.requires.x_bound in
    let l = laid_as (ap block_events c.part.ensures.result_value) c.put_block-past.ensures in
    rw (same-room l) (omega (arith, r, l.past))

pub returns : goal.returns
returns c =
    let l = laid_as (ap block_events c.part.ensures.result_value) c.put_block-past.ensures in
    whole-stored c.requires.whole_at c.saturating_sub.ensures c.next_block-next.ensures l c.put_end-all.ensures
