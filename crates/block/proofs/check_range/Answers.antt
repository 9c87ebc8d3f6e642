-- `block::check_range` meets its contract: 10, then 7, asked as a kind with a range.
use Rattle.def_wire.specs.declared.Kind.TheVariants.{Spans}
use Rattle.def_wire.specs.Block.{check_of}
use mathlib.Core.Path.{sym, ap, ◌∙◌}
use Rattle.block.proofs.check_range.Goals as goal

pub returns-in-Chunks : goal.returns-in-Chunks
returns-in-Chunks c = let a = c.args in
    c.check_chunks.ensures ∙ sym (ap (λ h. check_of a.r (Spans h) a.v.now) c.in-Chunks.is)

pub returns-in-Times : goal.returns-in-Times
returns-in-Times c = let a = c.args in
    c.check_times.ensures ∙ sym (ap (λ h. check_of a.r (Spans h) a.v.now) c.in-Times.is)
