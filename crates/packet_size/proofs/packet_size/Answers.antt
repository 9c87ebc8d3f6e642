-- `packet_size::packet_size` meets its contract: the header record, then the pass over those behind it.
use Prim.Native.Nat.{ℕ}
use mathlib.Core.Path.{◌≡◌, sym, ap, ◌∙◌}
use mathlib.Core.List.{List}
use native.Mathlib.Omega.{arith}
use Rattle.def_jobs.specs.Jobs.{le16, job_at, asked_padding}
use Rattle.packet_size.proofs.SizeLaws.{header-fits, header-good, header-bad}
use Rattle.packet_size.proofs.packet_size.Goals as goal

pub size_behind-requires : goal.size_behind-requires
size_behind-requires c = let list = c.args.list.now in
    let f = header-fits list (sym c.is_header_first.ensures ∙ c.if-is_header_first.true) in
    let p : c.from-start.result ≡ asked_padding (job_at list) = c.from-start.ensures ∙ c.u16_from_le_bytes.ensures
    ∙ ap (λ (s : List ℕ). le16 s 4) c.body_at.ensures.result_value in
    (omega (arith, c.next_at.ensures), omega (arith, p, f))

pub returns-then-is_header_first : goal.returns-then-is_header_first
returns-then-is_header_first c = let a = c.args in
    rw c.size_behind.ensures
    (header-good a.layout a.list.now (sym c.is_header_first.ensures ∙ c.if-is_header_first.true)
    c.from-start.result c.next_at.result
    (c.from-start.ensures ∙ c.u16_from_le_bytes.ensures ∙ ap (λ (s : List ℕ). le16 s 4) c.body_at.ensures.result_value)
    c.next_at.ensures)

pub returns : goal.returns
returns c = let a = c.args in
    header-bad a.layout a.list.now (sym c.is_header_first.ensures ∙ c.if-is_header_first.false)
