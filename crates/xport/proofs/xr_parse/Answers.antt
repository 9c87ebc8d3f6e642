-- `xport::xr_parse` meets its contract: how many blocks a packet has, and its sender's SSRC.
use Rattle.xport.proofs.ParsedLaws.{flat_read, parsed-flat}
use Rattle.xr.specs.Parsed.{parsed_of}
use Rattle.flat.specs.Flat.{reading_of}
use mathlib.Core.Path.{sym, ap, ◌∙◌}
use Rattle.xport.proofs.xr_parse.Goals as goal

pub returns-in-Ok : goal.returns-in-Ok
returns-in-Ok c = let a = c.args in
    ap flat_read (sym c.in-Ok.is ∙ c.parse.ensures
    ∙ ap (λ g. parsed_of g a.packet.now) c.reading.ensures)
    ∙ parsed-flat (reading_of a.r) a.packet.now

pub returns-in-Err : goal.returns-in-Err
returns-in-Err c = let a = c.args in
    c.refusal.ensures
    ∙ ap flat_read (sym c.in-Err.is ∙ c.parse.ensures
    ∙ ap (λ g. parsed_of g a.packet.now) c.reading.ensures)
    ∙ parsed-flat (reading_of a.r) a.packet.now
