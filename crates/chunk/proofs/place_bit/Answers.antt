-- `chunk::place_bit` meets its contract: the mask is 2 ^ 1 - 1; from place 14 on nothing is shifted. Assumes nothing.
use Prim.Native.Nat.{◌/◌, ◌-◌, ◌^◌}
use mathlib.Core.Path.{◌≡◌, ◌∙◌}
use native.Mathlib.Omega.{arith}
use lib.Bits.{and_mask}
use Rattle.chunk.proofs.place_bit.Goals as goal

pub returns-then-q-lt14 : goal.returns-then-q-lt14
returns-then-q-lt14 c = and_mask (c.args.w / 2 ^ (14 - c.args.q)) 1

pub returns-else-q-lt14 : goal.returns-else-q-lt14
returns-else-q-lt14 c = let a = c.args in
    let e : 14 - a.q ≡ 0 = omega arith in and_mask a.w 1 ∙ (rw e (omega arith))
