-- `xport::xr_block_at` meets its contract: what stands at a place of a packet.
use Rattle.flat.proofs.BlockLaws.{block-laid}
use Rattle.xr.proofs.HeaderBytes.{type-taken, specific-taken, length_taken}
use Rattle.def_wire.specs.Packet.{view_from}
use mathlib.Core.Path.{ap, ◌∙◌}
use Rattle.xport.proofs.xr_block_at.Goals as goal

pub returns : goal.returns
returns c = let a = c.args in
    let w = c.view_at-view.result.now in
    block-laid _ a.packet.now a.at w
    (c.view_at-view.ensures.0 ∙ ap (λ r. view_from r a.packet.now a.at) c.reading.ensures)
    c.next_place-next.result c.block_length.result c.block_type.result c.type_specific_byte.result
    c.next_place-next.ensures
    (length_taken w _ c.header_data-h.ensures _ c.block_length.ensures.0)
    (type-taken w _ c.header_data-h.ensures _ c.block_type.ensures)
    (specific-taken w _ c.header_data-h.ensures _ c.type_specific_byte.ensures)
