-- `range::range_of` meets its contract: the grid's first number, and what is left from there on. Assumes nothing.
use Rattle.std.proofs.Common.{◌≡◌, ℕ, ◌+◌, ◌-◌, min, ap, ◌∙◌, arith}
use Rattle.def_standard.specs.Range.{ahead_of}
use Rattle.range.proofs.GridLaws.{range-from}
-- the first number on the grid that was found
use Rattle.range.proofs.range_of.Goals as goal
use Rattle.range.proofs.range_of.Goals.{After-grid_from-first}

found : (c : After-grid_from-first) → let f = c.args.f in
    c.grid_from-first.result ≡ f.begin + ahead_of f.begin (min f.thinning 17)
found c =
    let f = c.args.f in
    c.grid_from-first.ensures ∙ ap (λ (t : ℕ). f.begin + ahead_of f.begin t) c.near_thinning.ensures

pub returns : goal.returns
returns c = let f = c.args.f in
    range-from f c.grid_from-first.result c.saturating_sub.result (found (goal.at.returns c).After-grid_from-first) (omega arith)
    (c.saturating_sub.ensures ∙ ap (λ (n : ℕ). n - (c.grid_from-first.result - f.begin)) c.size_of.ensures)
