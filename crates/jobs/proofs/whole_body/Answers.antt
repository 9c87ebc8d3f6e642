-- `jobs::whole_body` meets its contract.
use Prim.Native.Nat.{ℕ, ◌+◌, ◌-◌}
use mathlib.Core.Path.{◌≡◌, ap, ◌∙◌}
use native.Mathlib.Omega.{arith}
use lib.ListN.{take, drop}
use Rattle.jobs.proofs.PlaceLaws.{whole-within, body-cut}
use Rattle.jobs.proofs.whole_body.Goals as goal

pub overflow_add-from : goal.overflow_add-from
overflow_add-from c = omega (arith, whole-within c.args.list.now c.args.at c.requires)

pub load32-requires : goal.load32-requires
load32-requires c = omega (arith, whole-within c.args.list.now c.args.at c.requires)

pub overflow_add-to : goal.overflow_add-to
overflow_add-to c = omega (
  arith,
  whole-within c.args.list.now c.args.at c.requires,
  c.wide32.ensures.0,
  c.load32.ensures,
)

pub slice_bounds-result-end : goal.slice_bounds-result-end
slice_bounds-result-end c = omega (
  arith,
  whole-within c.args.list.now c.args.at c.requires,
  c.wide32.ensures.0,
  c.load32.ensures,
)

pub returns : goal.returns
returns c = let a = c.args in
    let n = c.wide32.result in
    let m : a.at + 6 + n - (a.at + 6) ≡ n = omega arith in
    ap (λ (k : ℕ). take k (drop (a.at + 6) a.list.now)) m
    ∙ body-cut a.list.now a.at a.at (omega (arith, whole-within a.list.now a.at c.requires)) n
    (c.wide32.ensures.0 ∙ c.load32.ensures)
