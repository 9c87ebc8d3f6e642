-- `range::grid_from` meets its contract: begin rounded up, which 64 bits hold. Assumes nothing.
use Rattle.std.proofs.Common.{ℕ, ◌*◌, ◌%◌, ◌^◌, ◌<◌, sym, ap, ◌∙◌, arith, pow_pos, shl_exact}
use Rattle.range.specs.Inside.{ceil_div}
use Rattle.range.proofs.InsideLaws.{ceil-le}
use Rattle.range.proofs.GridLaws.{grid-sum}
use Rattle.range.proofs.grid_from.Goals as goal

pub returns : goal.returns
returns c = let b = c.args.begin in
    let t = c.args.t in
    let few : ceil_div b (2 ^ t) < 2 ^ 16 = omega (arith, ceil-le b (2 ^ t) (pow_pos t)) in
    c.times_two_to.ensures ∙ ap (λ (x : ℕ). x * 2 ^ t % 2 ^ 64) c.ceil_shift.ensures
    ∙ shl_exact 16 t 64 few (omega arith) ∙ sym (grid-sum b t)
