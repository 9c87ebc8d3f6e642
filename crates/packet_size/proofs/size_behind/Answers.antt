-- `packet_size::size_behind` meets its contract: each need cites a law of one turn.
use Prim.Native.Nat.{ℕ, ◌+◌, ◌-◌}
use mathlib.Core.Path.{◌≡◌, refl, ◌∙◌}
use mathlib.Core.List.{List}
use native.Mathlib.Omega.{arith}
use lib.ListN.{length, take, drop}
use borrow.Author.Rules.{part_to_end}
use Rattle.jobs.specs.Places.{next_job, jobs_behind}
use Rattle.packet_size.proofs.SizeTurn.{Sizing, begun, stopped, further, stepped, refused, cut_short, ended}
use Rattle.packet_size.proofs.size_behind.Goals as goal
use Rattle.packet_size.proofs.size_behind.Goals.{After-judged_first-size}

-- the rest of the list, as the pass reads it
abbrev rest_at : List ℕ → ℕ → List ℕ
rest_at list at = take (length list - at) (drop at list)

-- a good record, and the step behind it
turn : (c : After-judged_first-size) → (c.judged_first-size.result ≡ 0 → ⊥) → (step : ℕ)
    → step ≡ next_job (rest_at c.args.list.now c.loop-at.at) 0
    → Sizing c.args.layout c.args.list.now c.args.start (jobs_behind (drop c.args.from c.args.list.now))
    (c.loop-at.at + step) (c.loop-at.blocks + 1) (c.loop-at.bytes + c.judged_first-size.result)
turn c some step k =
    stepped c.args.layout c.args.list.now c.args.start (jobs_behind (drop c.args.from c.args.list.now)) c.loop-at.at
    c.loop-at.blocks c.loop-at.bytes c.loop-at.invariant (omega (arith, c.loop-at-test.true))
    (rest_at c.args.list.now c.loop-at.at) (part_to_end c.args.list.now c.loop-at.at) c.judged_first-size.result
    c.judged_first-size.ensures some step k

pub loop-at-init : goal.loop-at-init
loop-at-init c = let a = c.args in
    begun a.layout a.list.now a.start a.from c.requires.0 c.requires.1

pub overflow_add-bytes : goal.overflow_add-bytes
overflow_add-bytes c =
    let t = turn (goal.at.overflow_add-bytes c).After-judged_first-size (omega arith)
    (next_job (rest_at c.args.list.now c.loop-at.at) 0) refl in
    omega (arith, t.small, t.within)

pub overflow_add-blocks : goal.overflow_add-blocks
overflow_add-blocks c = omega (arith, c.loop-at.invariant.few)

pub overflow_add-at : goal.overflow_add-at
overflow_add-at c =
    let t = turn (goal.at.overflow_add-at c).After-judged_first-size (omega arith) c.next_at-at.result
    c.next_at-at.ensures in
    omega (arith, t.within)

pub loop-at-smaller : goal.loop-at-smaller
loop-at-smaller c =
    omega (
      arith,
      further c.args.layout c.args.list.now c.args.start (jobs_behind (drop c.args.from c.args.list.now)) c.loop-at.at
          c.loop-at.blocks c.loop-at.bytes c.loop-at.invariant
          (omega (arith, c.loop-at-test.true)) (rest_at c.args.list.now c.loop-at.at) (part_to_end c.args.list.now c.loop-at.at)
          c.judged_first-size.result c.judged_first-size.ensures (omega arith) c.next_at-at.result
          c.next_at-at.ensures,
      (turn (goal.at.loop-at-smaller c).After-judged_first-size (omega arith) c.next_at-at.result c.next_at-at.ensures).within,
    )

pub loop-at-preserved : goal.loop-at-preserved
loop-at-preserved c =
    turn (goal.at.loop-at-preserved c).After-judged_first-size (omega arith) c.next_at-at.result c.next_at-at.ensures

pub overflow_add-result : goal.overflow_add-result
overflow_add-result c = omega (arith, c.loop-at.invariant.few)

-- the pass stopped before the end: at less than six bytes, or at a bad record
pub returns-then-at-list : goal.returns-then-at-list
returns-then-at-list c =
    let js = jobs_behind (drop c.args.from c.args.list.now) in
    refused c.args.layout c.args.list.now c.args.start js c.loop-at.at c.loop-at.blocks c.loop-at.bytes
    c.loop-at.invariant c.if-at-list.true
    (grind (
      arith,
      cut_short c.args.layout c.args.list.now c.args.start js c.loop-at.at c.loop-at.blocks c.loop-at.bytes
          c.loop-at.invariant,
      stopped c.args.layout c.args.list.now c.args.start js c.loop-at.at c.loop-at.blocks c.loop-at.bytes
          c.loop-at.invariant c.if-at-list.true (rest_at c.args.list.now c.loop-at.at)
          (part_to_end c.args.list.now c.loop-at.at),
    ))

pub returns : goal.returns
returns c = let a = c.args in
    c.fitting.ensures
    ∙ ended a.layout c.args.list.now a.start (jobs_behind (drop c.args.from c.args.list.now)) c.loop-at.at c.loop-at.blocks c.loop-at.bytes c.loop-at.invariant
    c.if-at-list.false

pub overflow_sub-list : goal.overflow_sub-list
overflow_sub-list c = c.loop-at.invariant.within

pub slice_bounds-rest-start : goal.slice_bounds-rest-start
slice_bounds-rest-start c = c.loop-at.invariant.within
