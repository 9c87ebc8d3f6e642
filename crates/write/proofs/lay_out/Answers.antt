-- `write::lay_out` meets its contract: header, blocks and padding are the packet.
use Prim.Native.Nat.{ℕ}
use mathlib.Core.Path.{◌≡◌, ap, ◌∙◌}
use mathlib.Core.List.{List}
use native.Mathlib.Omega.{arith}
use Rattle.def_jobs.specs.Jobs.{le16, le32, job_at, asked_padding}
use Rattle.write.proofs.PacketLaws.{framed, blocks-room, padding-room, laid}
use Rattle.write.proofs.lay_out.Goals as goal
use Rattle.write.proofs.lay_out.Goals.{After-from-padding}

-- what was read of the header record
padding-is : (c : After-from-padding) → let a = c.args in
    c.from-padding.result ≡ asked_padding (job_at a.list.now)
padding-is c =
    c.from-padding.ensures ∙ c.u16_from_le_bytes.ensures
    ∙ ap (λ (s : List ℕ). le16 s 4) c.body_at-header.ensures.result_value

pub write_blocks-end-requires : goal.write_blocks-end-requires
write_blocks-end-requires c = let a = c.args in
    let f = framed a.layout a.list.now a.size c.requires.0 in (
      omega (arith, c.next_at.ensures),
      rw c.next_at.ensures f.fine,
      rw c.next_at.ensures (blocks-room a.layout a.list.now a.size f a.out.now _
          c.write_header-blocks.result c.from-padding.result c.u32_from_le_bytes.result (padding-is (goal.at.write_blocks-end-requires c).After-from-padding)
          c.write_header-blocks.ensures c.requires.1),
    )

pub write_padding-requires : goal.write_padding-requires
write_padding-requires c = let a = c.args in
    let f = framed a.layout a.list.now a.size c.requires.0 in
    padding-room a.layout a.list.now a.size f a.out.now _
    c.write_header-blocks.result c.from-padding.result c.u32_from_le_bytes.result (padding-is (goal.at.write_padding-requires c).After-from-padding)
    c.write_header-blocks.ensures c.requires.1 _ c.write_blocks-end.result
    (rw c.next_at.ensures at c.write_blocks-end.ensures)

pub returns : goal.returns
returns c = let a = c.args in
    let f = framed a.layout a.list.now a.size c.requires.0 in
    laid a.layout a.list.now a.size f a.out.now _
    c.write_header-blocks.result c.from-padding.result c.u32_from_le_bytes.result (padding-is (goal.at.returns c).After-from-padding)
    c.write_header-blocks.ensures c.requires.1 _ c.write_blocks-end.result
    (rw c.next_at.ensures at c.write_blocks-end.ensures) _ c.write_padding.result
    (c.u32_from_le_bytes.ensures ∙ ap (λ (l : List ℕ). le32 l 0) c.body_at-header.ensures.result_value)
    c.write_padding.ensures
