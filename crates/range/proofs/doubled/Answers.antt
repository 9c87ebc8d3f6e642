-- `range::doubled` meets its contract: 16 bits of the product in 64 bits. Assumes nothing.
use Rattle.std.proofs.Common.{ℕ, ◌%◌, ap, ◌∙◌}
use Rattle.range.proofs.SequenceLaws.{doubled_of-wide}
use Rattle.range.proofs.doubled.Goals as goal

pub returns : goal.returns
returns c = let a = c.args in
    ap (λ (n : ℕ). n % 65536) c.times_two_to.ensures ∙ doubled_of-wide a.x a.t
