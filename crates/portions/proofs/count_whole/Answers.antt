-- `portions::count_whole` meets its contract.
use mathlib.Core.Path.{◌≡◌, ap, ◌∙◌}
use native.Mathlib.Omega.{arith}
use lib.ListN.{length}
use Rattle.def_wire.specs.Packet.{part}
use Rattle.def_portions.specs.Events.{block_events}
use Rattle.portions.proofs.TurnLaws.{whole_room, whole-counted}
use Rattle.portions.proofs.count_whole.Goals as goal
use Rattle.portions.proofs.count_whole.Goals.{After-count_block-shown}

shown : (c : After-count_block-shown) → let a = c.args in
    c.count_block-shown.result ≡ length (block_events (part a.x.now a.at a.l))
shown c = c.count_block-shown.ensures ∙ ap (λ v. length (block_events v)) c.part.ensures.result_value

pub overflow_add-result : goal.overflow_add-result
overflow_add-result c =
    let r = whole_room c.requires.whole_at c.saturating_sub.ensures c.next_block-next.ensures 0 18446744073709551615
    (omega (arith, c.requires.x_len_bound)) in
    omega (arith, r, shown (goal.at.overflow_add-result c).After-count_block-shown, c.ends.ensures)

pub returns : goal.returns
returns c =
    whole-counted c.requires.whole_at c.saturating_sub.ensures c.next_block-next.ensures
    (shown (goal.at.returns c).After-count_block-shown) c.ends.ensures
