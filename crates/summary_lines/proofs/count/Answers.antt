-- `summary_lines::count` meets its contract: a number, or ` absent`.
use Rattle.summary_lines.proofs.count.Goals as goal

pub returns-in-Some : goal.returns-in-Some
returns-in-Some c = rw c.in-Some.is c.number.ensures

pub returns-in-None : goal.returns-in-None
returns-in-None c = rw c.in-None.is c.text.ensures
