-- `ask::write_in` meets its contract: the packet of a job list, in a layout.
use Rattle.ask.proofs.write_in.Goals as goal

pub returns-in-Plain : goal.returns-in-Plain
returns-in-Plain c = rw c.in-Plain.is c.write_plain.ensures

pub returns-in-Careful : goal.returns-in-Careful
returns-in-Careful c = rw c.in-Careful.is c.write_careful.ensures
