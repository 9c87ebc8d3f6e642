-- `rle::list::list_runs` meets its contract: its invariant is `Ran`, and needs cite laws of one turn. Assumes nothing.
use Prim.Native.Nat.{ℕ, ◌+◌, ◌%◌, ◌<◌}
use mathlib.Core.Path.{◌≡◌, sym, ap, ◌∙◌}
use native.Mathlib.Omega.{arith}
use lib.ListN.{length}
use Rattle.laws.proofs.Stores.{same}
use Rattle.def_wire.specs.Bytes.{be16}
use Rattle.def_crate.specs.Sequence.{moved_by}
use Rattle.ones.specs.Along.{past}
use Rattle.rle.proofs.RunsTurn.{past-moved, Clear, clear-run, begun, room, turned}
use Rattle.rle.proofs.list.list_runs.Goals as goal
use Rattle.rle.proofs.list.list_runs.Goals.{After-run_length-count, After-store_run-r, Else-not-is_clear_run}

clear : (e : Else-not-is_clear_run) → Clear (be16 e.args.bytes.now e.loop-at.at) e.loop-at.first
clear e =
    clear-run (be16 e.args.bytes.now e.loop-at.at) e.loop-at.first
    (rw (← e.pair-w.ensures) (sym e.is_clear_run.ensures ∙ e.if-not-is_clear_run.false))

more : (e : Else-not-is_clear_run) → e.loop-at.at + 1 < length e.args.bytes.now
more e = omega (arith, e.loop-at-test.true, e.requires.0)

counted : (c : After-run_length-count) → c.run_length-count.result ≡ be16 c.args.bytes.now c.loop-at.at % 16384
counted c = c.run_length-count.ensures ∙ ap (λ (w : ℕ). w % 16384) c.pair-w.ensures

-- the start moves to the number after the run
moved : (w : After-store_run-r)
    → w.store_run-r.result.next ≡ moved_by w.run_length-count.result w.args.thinning w.loop-at.start
moved w =
    w.store_run-r.ensures.next_value
    ∙ ap (λ (step : ℕ). past step w.loop-at.start w.run_length-count.result) w.requires.3
    ∙ past-moved w.args.thinning w.loop-at.start w.run_length-count.result w.loop-at.invariant.small

pub loop-at-init : goal.loop-at-init
loop-at-init c = let a = c.args in
    begun a.end a.thinning a.bytes.now a.from a.begin a.out.now a.stored a.clear c.requires.1
    (omega arith) c.requires.2

pub shape_of-out-then-not-is_clear_run : goal.shape_of-out-then-not-is_clear_run
shape_of-out-then-not-is_clear_run c = same c.loop-at.invariant.wrote

pub returns-then-not-is_clear_run : goal.returns-then-not-is_clear_run
returns-then-not-is_clear_run c = c.loop-at.invariant

pub store_run-r-requires : goal.store_run-r-requires
store_run-r-requires c = let e = (goal.at.store_run-r-requires c).Else-not-is_clear_run in
    rw (counted (goal.at.store_run-r-requires c).After-run_length-count)
    (room c.loop-at.invariant (omega arith) (more e) (clear e) c.requires.4)

pub next_fail-first-requires : goal.next_fail-first-requires
next_fail-first-requires c =
    (c.loop-at.invariant.fails, moved (goal.at.next_fail-first-requires c).After-store_run-r)

pub loop-at-preserved : goal.loop-at-preserved
loop-at-preserved c = let a = c.args in
    let e = (goal.at.loop-at-preserved c).Else-not-is_clear_run in
    let n = counted (goal.at.loop-at-preserved c).After-run_length-count in
    turned c.loop-at.invariant (omega arith) (more e) (clear e)
    (rw (← n, ← c.requires.3) c.store_run-r.ensures.wrote)
    (moved (goal.at.loop-at-preserved c).After-store_run-r
    ∙ ap (λ (k : ℕ). moved_by k a.thinning c.loop-at.start) n)
    c.next_fail-first.ensures

pub shape_of-out : goal.shape_of-out
shape_of-out c = same c.loop-at.invariant.wrote

pub returns : goal.returns
returns c = c.loop-at.invariant
