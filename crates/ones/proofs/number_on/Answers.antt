-- `ones::number_on` meets its contract: nothing wraps on the way. Assumes nothing.
use Rattle.std.proofs.Common.{◌*◌, ◌≤◌, mul-le-mul, arith}
use Rattle.ones.proofs.number_on.Goals as goal
use Rattle.ones.proofs.number_on.Goals.{Start}

small : (c : Start) → c.args.q * c.args.step ≤ 15 * 65535
small c =
    let b : c.args.step ≤ 65535 = omega arith in mul-le-mul c.requires b

pub overflow_mul-result : goal.overflow_mul-result
overflow_mul-result c = omega (arith, small (goal.at.overflow_mul-result c).Start)

pub overflow_add-result : goal.overflow_add-result
overflow_add-result c = omega (arith, small (goal.at.overflow_add-result c).Start)
