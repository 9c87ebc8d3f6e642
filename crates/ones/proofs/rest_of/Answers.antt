-- `ones::rest_of` meets its contract: a run by a difference, a vector by a shift and a mask. Assumes nothing.
use Rattle.std.proofs.Common.{◌≡◌, ◌+◌, ◌*◌, ◌%◌, ◌^◌, ap, ◌∙◌, rules}
use lib.Bits.{bit_and, and_mask}
use lib.Pow.{mod-mod-pow}
use Rattle.ones.proofs.RestLaws.{rest-run, rest-vector}
use Rattle.ones.proofs.rest_of.Goals as goal
use Rattle.ones.proofs.rest_of.Goals.{After-min-2}

-- the vector's bits
bits : (c : After-min-2) → let x = c.args.w * 2 ^ c.min-2.result in
    bit_and (x % 4294967296) 32767 ≡ x % 32768
bits c =
    let x = c.args.w * 2 ^ c.min-2.result in
    and_mask (x % 4294967296) 15 ∙ mod-mod-pow x 17 15

pub returns-then-w-lt32768 : goal.returns-then-w-lt32768
returns-then-w-lt32768 c = let a = c.args in
    rw (rest-run a.w a.place c.if-w-lt32768.true, c.min.ensures, c.run_length.ensures)

pub overflow_cast-result-4 : goal.overflow_cast-result-4
overflow_cast-result-4 c = rw (bits (goal.at.overflow_cast-result-4 c).After-min-2) (search rules)

pub overflow_add-result : goal.overflow_add-result
overflow_add-result c = rw (bits (goal.at.overflow_add-result c).After-min-2) (search rules)

pub returns : goal.returns
returns c = let a = c.args in
    rw (rest-vector a.w a.place c.if-w-lt32768.false, ← c.min-2.ensures) (ap (◌+◌ 32768) (bits (goal.at.returns c).After-min-2))
