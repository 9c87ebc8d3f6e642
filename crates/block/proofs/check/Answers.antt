-- `block::check` meets its contract: 10, then 7, asked as a kind.
use Rattle.def_wire.specs.Block.{check_of}
use mathlib.Core.Path.{sym, ap, ◌∙◌}
use Rattle.block.proofs.check.Goals as goal

pub returns-in-Spans : goal.returns-in-Spans
returns-in-Spans c = let a = c.args in
    c.check_range.ensures ∙ sym (ap (λ h. check_of a.r h a.v.now) c.in-Spans.is)

pub returns-in-Clock : goal.returns-in-Clock
returns-in-Clock c = let a = c.args in
    c.check_clock.ensures ∙ sym (ap (λ h. check_of a.r h a.v.now) c.in-Clock.is)

pub returns-in-Echoes : goal.returns-in-Echoes
returns-in-Echoes c = let a = c.args in
    c.check_echoes.ensures ∙ sym (ap (λ h. check_of a.r h a.v.now) c.in-Echoes.is)

pub returns-in-Statistics : goal.returns-in-Statistics
returns-in-Statistics c = let a = c.args in
    c.check_statistics.ensures ∙ sym (ap (λ h. check_of a.r h a.v.now) c.in-Statistics.is)
