-- `misled::goes_on` meets its contract: stretch by stretch or word by word, up to the first one outside the range.
-- Assumes nothing.
use Rattle.std.proofs.Common.{ℕ, sym, ◌∙◌, ap₂, arith}
use Rattle.def_crate.specs.Sequence.{passes}
use Rattle.misled.proofs.WordsTurn.{Word, begin, ended, next-clear, next-none, found, over}
use Rattle.misled.proofs.goes_on.Goals as goal
use Rattle.misled.proofs.goes_on.Goals.{After-covers-covered, then-left-covered+else-q-covered, else-left-covered}

-- the word at hand
here : (v : After-covers-covered) → Word v.args.body.now v.loop-at.at v.load16-w.result v.covers-covered.result
here v =
    record {
      within = v.loop-at-test.true;
      bytes = v.load16-w.ensures;
      covers = v.covers-covered.ensures;
    }

pub loop-at-init : goal.loop-at-init
loop-at-init c = let a = c.args in
    rw c.inside_count-left.ensures (begin a.g a.end a.body.now)

-- the stretch was passed
pub loop-at-smaller-then-at-s : goal.loop-at-smaller-then-at-s
loop-at-smaller-then-at-s c = omega (arith, c.if-at-s.true, c.stretch-s.ensures.within)

pub loop-at-preserved-then-at-s : goal.loop-at-preserved-then-at-s
loop-at-preserved-then-at-s c = over c.requires c.loop-at.invariant c.stretch-s.ensures

-- two bytes are there
pub load16-w-requires : goal.load16-w-requires
load16-w-requires c = let g = c.requires in
    omega (arith, c.loop-at-test.true, c.loop-at.invariant.index, g.items, g.ten)

pub one_from-q-requires : goal.one_from-q-requires
one_from-q-requires c = omega (arith, c.covers-covered.ensures, c.if-left-covered.true)

pub returns-then-q-covered : goal.returns-then-q-covered
returns-then-q-covered c =
    c.passes.ensures
    ∙ ap₂ (λ (x y : ℕ). passes x c.args.end y) c.number_at-start.ensures c.number_at.ensures
    ∙ found c.requires c.loop-at.invariant (here (goal.at.returns-then-q-covered c).After-covers-covered)
    c.one_from-q.ensures c.if-q-covered.true

pub loop-at-preserved : goal.loop-at-preserved
loop-at-preserved c = let h = here (goal.at.loop-at-preserved c).After-covers-covered in
    rw c.wrapping_add_u16-p.ensures.value (elim c.if-left-covered.branch [
      | then-left-covered+else-q-covered w ↦ rw w.left-is
          (next-none c.requires c.loop-at.invariant h w.one_from-q.ensures w.if-left-covered.true w.if-q-covered.false)
      | else-left-covered w ↦ rw w.left-is (next-clear c.requires c.loop-at.invariant h w.if-left-covered.false)
    ])

pub returns : goal.returns
returns c = sym (ended c.requires c.loop-at.invariant c.loop-at-test.false)
