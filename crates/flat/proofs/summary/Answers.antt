-- `flat::summary` meets its contract.
use Rattle.flat.specs.Flat.{flat_summary}
use Rattle.flat.proofs.summary.Goals as goal

pub returns-in-Ok : goal.returns-in-Ok
unfolding flat_summary
returns-in-Ok c = rw c.in-Ok.is (rw (← c.flags_of.ensures, ← c.sums_of.ensures) c.summary_row.ensures)

pub returns-in-Err : goal.returns-in-Err
unfolding flat_summary
returns-in-Err c = rw (c.summary_row-in-Err.ensures, c.no_sums.ensures, c.refusal.ensures, c.in-Err.is)
