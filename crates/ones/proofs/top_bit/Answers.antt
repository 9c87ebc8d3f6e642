-- `ones::top_bit` meets its contract: leading zeros and the digits below the highest make 32. Assumes nothing.
use lib.Count.{count_leading_zeros, leading_le, leading_top}
use Rattle.std.proofs.Common.{◌≡◌, ◌-◌, arith}
use Rattle.ones.proofs.top_bit.Goals as goal

pub overflow_cast-result : goal.overflow_cast-result
overflow_cast-result c = omega (arith, leading_le 32 c.args.v)

pub overflow_sub-result : goal.overflow_sub-result
overflow_sub-result c = let t = leading_top 32 c.args.v c.requires (omega arith) in omega (arith, t.1)

pub returns : goal.returns
returns c = let t = leading_top 32 c.args.v c.requires (omega arith) in
    let e : 31 - count_leading_zeros 32 c.args.v ≡ t.0 = omega (arith, t.1) in
    rw e (record { least = t.2; below = t.3 })
