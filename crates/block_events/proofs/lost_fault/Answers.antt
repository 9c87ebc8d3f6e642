-- `block_events::lost_fault` meets its contract: 7, by the block's type and its words. Assumes nothing.
use Rattle.std.proofs.Common.{sym, ◌∙◌}
use Rattle.block_events.proofs.FaultLaws.{rle-known, fault-lost, fault-clear, fault-other}
use Rattle.block_events.proofs.lost_fault.Goals as goal

pub returns-then-has_lost_run : goal.returns-then-has_lost_run
returns-then-has_lost_run c = let v = c.args.v.now in
    fault-lost v _ (rle-known v c.type_of.ensures c.rle_of.ensures c.in-Some.is)
    _ c.length_of.ensures _ c.part.ensures.result_value (sym c.has_lost_run.ensures ∙ c.if-has_lost_run.true)

pub returns-else-has_lost_run : goal.returns-else-has_lost_run
returns-else-has_lost_run c = let v = c.args.v.now in
    fault-clear v _ (rle-known v c.type_of.ensures c.rle_of.ensures c.in-Some.is)
    _ c.part.ensures.result_value (sym c.has_lost_run.ensures ∙ c.if-has_lost_run.false)

pub returns-in-None : goal.returns-in-None
returns-in-None c = let v = c.args.v.now in
    fault-other v (rle-known v c.type_of.ensures c.rle_of.ensures c.in-None.is)
