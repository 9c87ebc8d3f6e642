-- `ones::store_run` meets its contract: what is still to be stored is the progression from the next number on.
-- Assumes nothing.
use Rattle.std.proofs.Common.{◌≡◌, ◌+◌, ◌-◌, ◌∷◌, sym, ap, ◌∙◌, arith}
use Rattle.range.specs.Steps.{onward}
use Rattle.ones.specs.Along.{progression, past}
use Rattle.ones.proofs.ListingLaws.{length-progression, progression-cons, progression-none, past-none, past_more}
use Rattle.laws.proofs.Filling.{start, within, put, ended}
use Rattle.ones.proofs.store_run.Goals as goal
use Rattle.ones.proofs.store_run.Goals.{In-loop-n}

-- there is a number left to store
next : (l : In-loop-n) → let a = l.args in let k = l.loop-n in
    progression a.step k.x (a.at + a.count - k.n)
    ≡ k.x ∷ progression a.step (onward a.step k.x) (a.at + a.count - (k.n + 1))
next l =
    let k = l.loop-n in
    let h = l.loop-n-test.true in
    progression-cons l.args.step k.x (l.args.at + l.args.count - k.n) (l.args.at + l.args.count - (k.n + 1)) (omega arith)

pub loop-n-init : goal.loop-n-init
loop-n-init c = let a = c.args in
    let e : a.at + a.count - a.at ≡ a.count = omega arith in (
      past-none a.step a.first (a.at - a.at) (omega arith),
      rw e (start (rw (length-progression a.step a.first a.count) c.requires)),
    )

pub bounds-out-n : goal.bounds-out-n
bounds-out-n c = within (next (goal.at.bounds-out-n c).In-loop-n) c.loop-n.invariant.1

pub loop-n-preserved : goal.loop-n-preserved
loop-n-preserved c = let a = c.args in
    let n = c.loop-n.n in (
      ap (onward a.step) c.loop-n.invariant.0 ∙ past_more a.step a.first (n - a.at) (n + 1 - a.at) (omega arith),
      put (next (goal.at.loop-n-preserved c).In-loop-n) c.loop-n.invariant.1,
    )

pub returns : goal.returns
returns c = let a = c.args in
    let i = c.loop-n.invariant in
    let e : c.loop-n.n - a.at ≡ a.count = omega arith in
    let w = ended (progression-none a.step c.loop-n.x (a.at + a.count - c.loop-n.n) (omega arith)) i.1 in record {
      wrote = record { stored = w.stored; past = ap (◌+◌ a.at) (sym (length-progression a.step a.first a.count)) };
      next_value = i.0 ∙ ap (past a.step a.first) e;
    }
