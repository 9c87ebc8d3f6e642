-- `range::xr_offset_sequence` meets its contract: the sum that is tested is the definition's. Assumes nothing.
use Rattle.std.proofs.Common.{◌≡◌, sym, ◌∙◌}
use Rattle.range.proofs.SequenceLaws.{offset-passes, offset-fails}
use Rattle.def_crate.specs.Sequence.{sequence_of, passes}
use Rattle.range.proofs.xr_offset_sequence.Goals as goal
use Rattle.range.proofs.xr_offset_sequence.Goals.{After-passes}

-- the number that is tested is the definition's
tested : (c : After-passes) → let a = c.args in
    passes a.start a.end (sequence_of a.seq a.start a.thinning) ≡ c.passes.result
tested c = rw (← c.doubled.ensures) (sym c.passes.ensures)

pub returns-then-passes : goal.returns-then-passes
returns-then-passes c = let a = c.args in
    rw c.doubled.ensures (sym (offset-passes a.seq a.start a.end a.thinning (tested (goal.at.returns-then-passes c).After-passes ∙ c.if-passes.true)))

pub returns-else-passes : goal.returns-else-passes
returns-else-passes c = let a = c.args in
    sym (offset-fails a.seq a.start a.end a.thinning (tested (goal.at.returns-else-passes c).After-passes ∙ c.if-passes.false))
