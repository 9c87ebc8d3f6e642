-- `range::times_two_to` meets its contract: a shift by less than 64 is the product; by more, nothing. Assumes nothing.
use Rattle.std.proofs.Common.{sym}
use Rattle.range.proofs.SequenceLaws.{shl-away}
use Rattle.range.proofs.times_two_to.Goals as goal

pub returns-else-t-lt64 : goal.returns-else-t-lt64
returns-else-t-lt64 c = sym (shl-away c.args.x 64 c.args.t c.if-t-lt64.false)
