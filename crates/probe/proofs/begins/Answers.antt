-- `probe::begins` meets its contract: whether a payload of at least so many bytes begins with a reading.
use native.Mathlib.Omega.{arith}
use Rattle.probe.proofs.ReplyLaws.{begins-short, begins-byte}
use Rattle.probe.proofs.begins.Goals as goal

pub returns-then-p-least : goal.returns-then-p-least
returns-then-p-least c = begins-short _ c.args.p.now (omega arith)

pub returns : goal.returns
returns c = begins-byte _ c.args.p.now _ (omega arith) c.byte_at.ensures
