-- `rle::list::list_crate` meets its contract: the loop fills from the front, from a start that moves. Assumes nothing.
use Prim.Native.Nat.{ℕ, ◌+◌, ◌*◌, ◌%◌, ◌^◌, ◌≤◌, ◌<◌}
use mathlib.Core.Path.{◌≡◌, sym, ap, ◌∙◌}
use native.Mathlib.Nat.{mod-lt, one-mul}
use native.Mathlib.Omega.{arith}
use borrow.Author.Tests.{le-ltb, lt-ltb}
use lib.Dec.{ltb, lit<}
use lib.ListN.{length}
use Rattle.def_wire.specs.Bytes.{words16, be16}
use Rattle.def_standard.specs.Chunks.{covers_of}
use Rattle.def_crate.specs.Sequence.{moved_by}
use Rattle.def_crate.specs.Crate.{crate_numbers_from}
use Rattle.laws.specs.Stores.{Wrote}
use Rattle.laws.proofs.Stores.{same}
use Rattle.laws.proofs.Filling.{Filling, start as begun, skip, moved as settled, wrote, done}
use Rattle.range.specs.Steps.{step_of}
use Rattle.range.specs.Failing.{first_fail}
use Rattle.range.proofs.NextLaws.{next-same}
use Rattle.ones.specs.Stops.{stop_at}
use Rattle.rle.specs.Runs.{here}
use Rattle.ones.proofs.WordLaws.{along-same}
use Rattle.rle_words.proofs.Turn.{Turn, fill-room, fill-last, fill-next}
use Rattle.rle.proofs.CrateTurn.{added, stop, rest, here_end, here-zeros, turn}
use Rattle.rle.proofs.list.list_crate.Goals as goal
use Rattle.rle.proofs.list.list_crate.Goals.{At-loop-at, After-list_runs-r, After-covers-covered}
use Rattle.rle.proofs.list.list_crate.Goals.{After-stop_at-upto, After-store_word-n, Joined-w-ge16384, Joined-covered-ne0}
use Rattle.rle.proofs.list.list_crate.Goals.{then-w-ge16384+else-upto-covered, else-w-ge16384}
use Rattle.rle.proofs.list.list_crate.Goals.{then-covered-ne0, else-covered-ne0}

-- the step that is computed once
stepped : (l : At-loop-at) → l.doubled-step.result ≡ step_of l.args.thinning
stepped l = l.doubled-step.ensures ∙ (rw (one-mul (2 ^ l.args.thinning)))

-- what is filled where the runs were passed
passed : (p : After-list_runs-r) → let a = p.args in let r = p.list_runs-r.result in
    Filling (crate_numbers_from a.end a.thinning a.begin (words16 a.bytes.now)) a.out.now p.list_runs-r.new.out
    (here a.end a.thinning a.bytes.now r.at r.start) r.n
passed p = let e = p.list_runs-r.ensures in wrote e.split e.wrote p.loop-at.invariant.3

covered : (v : After-covers-covered) → v.covers-covered.result ≡ covers_of (be16 v.args.bytes.now v.list_runs-r.result.at)
covered v = v.covers-covered.ensures ∙ ap covers_of v.pair-w.ensures

-- there is a word
more : (v : After-covers-covered) → v.list_runs-r.result.at + 1 < length v.args.bytes.now
more v = omega (arith, v.if-last-at.false, v.last_of-last.ensures)

-- where it stops
stops : (c : After-stop_at-upto) → let a = c.args in let r = c.list_runs-r.result in
    c.stop_at-upto.result ≡ stop a.end a.thinning a.bytes.now r.at r.start
stops c = let a = c.args in
    c.stop_at-upto.ensures ∙ ap (stop_at c.list_runs-r.result.start a.end a.thinning) c.pair-w.ensures

-- its turn
here-turn : (v : After-covers-covered) → let a = v.args in let r = v.list_runs-r.result in
    Turn (here a.end a.thinning a.bytes.now r.at r.start)
    (added a.end a.thinning (be16 a.bytes.now r.at) r.start)
    (ltb (stop a.end a.thinning a.bytes.now r.at r.start) (covers_of (be16 a.bytes.now r.at)))
    (rest a.end a.thinning a.bytes.now r.at r.start)
here-turn v = let a = v.args in
    let r = v.list_runs-r.result in
    let more : r.at + 1 < length a.bytes.now = omega (arith, v.if-last-at.false, v.last_of-last.ensures) in
    turn a.end a.thinning a.bytes.now r.at r.start v.list_runs-r.ensures.small more

-- its numbers were stored
stored : (c : After-store_word-n) → let a = c.args in let r = c.list_runs-r.result in
    Wrote c.list_runs-r.new.out r.n (added a.end a.thinning (be16 a.bytes.now r.at) r.start) c.store_word-n.new.out
    c.store_word-n.result
stored c = let a = c.args in
    let r = c.list_runs-r.result in
    let s : c.stop_at-upto.result ≡ stop a.end a.thinning a.bytes.now r.at r.start =
    c.stop_at-upto.ensures ∙ ap (stop_at r.start a.end a.thinning) c.pair-w.ensures in
    let step : c.doubled-step.result ≡ step_of a.thinning = c.doubled-step.ensures ∙ (rw (one-mul (2 ^ a.thinning))) in
    rw (← s, ← step, ← c.pair-w.ensures) c.store_word-n.ensures

-- what is filled where the loop goes on
onward : (c : Joined-w-ge16384) → let a = c.args in let r = c.list_runs-r.result in
    Filling (crate_numbers_from a.end a.thinning a.begin (words16 a.bytes.now)) a.out.now c.if-w-ge16384.out
    (rest a.end a.thinning a.bytes.now r.at r.start) c.if-w-ge16384.n
onward c =
    let a = c.args in
    let r = c.list_runs-r.result in
    let p = c.pair-w.ensures in
    let small = c.list_runs-r.ensures.small in
    let more : r.at + 1 < length a.bytes.now = omega (arith, c.if-last-at.false, c.last_of-last.ensures) in
    let zeros = here-zeros a.end a.thinning a.bytes.now r.at r.start small more in
    let here-turn = turn a.end a.thinning a.bytes.now r.at r.start small more in
    let ran = c.list_runs-r.ensures in
    let passed = wrote ran.split ran.wrote c.loop-at.invariant.3 in
    let cov : c.covers-covered.result ≡ covers_of (be16 a.bytes.now r.at) = c.covers-covered.ensures ∙ ap covers_of p in
    let step : c.doubled-step.result ≡ step_of a.thinning = c.doubled-step.ensures ∙ (rw (one-mul (2 ^ a.thinning))) in
    elim c.if-w-ge16384.branch [
      | then-w-ge16384+else-upto-covered w ↦
          let s : w.stop_at-upto.result ≡ stop a.end a.thinning a.bytes.now r.at r.start =
          w.stop_at-upto.ensures ∙ ap (stop_at r.start a.end a.thinning) p in
          let k : Wrote c.list_runs-r.new.out r.n (added a.end a.thinning (be16 a.bytes.now r.at) r.start)
          w.store_word-n.new.out w.store_word-n.result = rw (← s, ← step, ← p) w.store_word-n.ensures in
          let e : covers_of (be16 a.bytes.now r.at) ≤ stop a.end a.thinning a.bytes.now r.at r.start =
          rw (← s, ← cov) w.if-upto-covered.false in
          settled w.out-is w.n-is (fill-next here-turn passed k (le-ltb _ _ e))
      | else-w-ge16384 w ↦
          let z : be16 a.bytes.now r.at < 16384 = rw (← p) w.if-w-ge16384.false in
          settled w.out-is w.n-is (skip (zeros z) passed)
    ]

-- the start and the first place that fails, for the next word
next : (c : Joined-covered-ne0) → let a = c.args in let r = c.list_runs-r.result in
    (c.if-covered-ne0.start ≡ moved_by (covers_of (be16 a.bytes.now r.at)) a.thinning r.start)
    × (c.if-covered-ne0.first ≡ first_fail c.if-covered-ne0.start a.end a.thinning)
next c =
    let a = c.args in
    let r = c.list_runs-r.result in
    let covered : c.covers-covered.result ≡ covers_of (be16 a.bytes.now r.at) =
    c.covers-covered.ensures ∙ ap covers_of c.pair-w.ensures in
    let cov = ap (λ (n : ℕ). moved_by n a.thinning r.start) covered in
    let small = c.list_runs-r.ensures.small in
    let unmoved = next-same r.start a.end a.thinning c.covers-covered.result small (omega arith) in
    elim c.if-covered-ne0.branch [
      | then-covered-ne0 w ↦
          (w.start-is ∙ w.moved_by-next.ensures ∙ cov, rw (w.start-is, w.first-is) w.next_fail-first.ensures)
      | else-covered-ne0 w ↦
          (w.start-is ∙ sym (unmoved w.if-covered-ne0.false) ∙ cov, rw (w.start-is, w.first-is) c.list_runs-r.ensures.fails)
    ]

pub loop-at-init : goal.loop-at-init
loop-at-init c = (omega arith, omega arith, c.first_fail-first.ensures, begun (omega (arith, c.requires)))

pub list_runs-r-requires : goal.list_runs-r-requires
list_runs-r-requires c = let i = c.loop-at.invariant in (
  c.last_of-last.ensures,
  i.0,
  i.2,
  stepped (goal.at.list_runs-r-requires c).At-loop-at,
  omega (arith, i.3.count, i.3.same, i.3.room),
)

pub shape_of-out-then-last-at : goal.shape_of-out-then-last-at
shape_of-out-then-last-at c = (passed (goal.at.shape_of-out-then-last-at c).After-list_runs-r).same

pub returns-then-last-at : goal.returns-then-last-at
returns-then-last-at c = let a = c.args in
    let r = c.list_runs-r.result in
    let h : length a.bytes.now ≤ r.at + 1 = omega (arith, c.if-last-at.true, c.last_of-last.ensures) in
    done (here_end a.end a.thinning a.bytes.now r.at r.start h)
    (passed (goal.at.returns-then-last-at c).After-list_runs-r)

pub stop_at-upto-requires : goal.stop_at-upto-requires
stop_at-upto-requires c = c.list_runs-r.ensures.fails

pub store_word-n-requires : goal.store_word-n-requires
store_word-n-requires c = let at = goal.at.store_word-n-requires c in
    rw (along-same c.list_runs-r.result.start (stepped at.At-loop-at) (stops at.After-stop_at-upto) c.pair-w.ensures)
    (fill-room (here-turn at.After-covers-covered) (passed at.After-list_runs-r))

pub shape_of-out-then-upto-covered : goal.shape_of-out-then-upto-covered
shape_of-out-then-upto-covered c = let at = goal.at.shape_of-out-then-upto-covered c in
    same (stored at.After-store_word-n) ∙ (passed at.After-list_runs-r).same

pub returns-then-upto-covered : goal.returns-then-upto-covered
returns-then-upto-covered c = let at = goal.at.returns-then-upto-covered c in
    let a = c.args in
    let r = c.list_runs-r.result in
    let e : stop a.end a.thinning a.bytes.now r.at r.start < covers_of (be16 a.bytes.now r.at) =
    rw (← stops at.After-stop_at-upto, ← covered at.After-covers-covered) c.if-upto-covered.true in
    fill-last (here-turn at.After-covers-covered) (passed at.After-list_runs-r) (stored at.After-store_word-n)
    (lt-ltb _ _ e)

pub next_fail-first-requires : goal.next_fail-first-requires
next_fail-first-requires c = (c.list_runs-r.ensures.fails, c.moved_by-next.ensures)

pub loop-at-smaller : goal.loop-at-smaller
loop-at-smaller c =
    omega (arith, more (goal.at.loop-at-smaller c).After-covers-covered, c.list_runs-r.ensures.onward)

pub loop-at-preserved : goal.loop-at-preserved
loop-at-preserved c = let at = goal.at.loop-at-preserved c in
    let r = c.list_runs-r.result in
    let n = next at.Joined-covered-ne0 in
    let small = mod-lt (r.start + covers_of (be16 c.args.bytes.now r.at) * 2 ^ c.args.thinning % 65536) (lit< tt) in
    (omega (arith, more at.After-covers-covered), rw n.0 small, n.1, rw n.0 (onward at.Joined-w-ge16384))

pub shape_of-out : goal.shape_of-out
shape_of-out c = c.loop-at.invariant.3.same

pub returns : goal.returns
returns c = let a = c.args in
    let h : length a.bytes.now ≤ c.loop-at.at + 1 = omega (arith, c.loop-at-test.false, c.last_of-last.ensures) in
    done (here_end a.end a.thinning a.bytes.now c.loop-at.at c.loop-at.start h) c.loop-at.invariant.3
