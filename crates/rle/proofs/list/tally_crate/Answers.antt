-- `rle::list::tally_crate` meets its contract: what is counted and what is to be listed make up the whole. Assumes
-- nothing.
use Rattle.std.proofs.Common.{◌+◌, ◌*◌, ◌%◌, ◌^◌, ◌≤◌, ◌<◌, ◌≡◌, ℕ, List, [], get_or, refl, sym, ap, ◌∙◌, w16, arith}
use Rattle.std.specs.Int.{from_be_bytes}
use native.Mathlib.Nat.{mod-lt}
use borrow.Author.Tests.{le-ltb, lt-ltb}
use lib.Dec.{ltb, lit<}
use lib.ListN.{length}
use Rattle.laws.proofs.Filling.{Counting}
use Rattle.def_wire.specs.Bytes.{words16, be16}
use Rattle.def_standard.specs.Chunks.{covers_of}
use Rattle.def_crate.specs.Sequence.{moved_by}
use Rattle.def_crate.specs.Crate.{crate_numbers_from}
use Rattle.range.specs.Steps.{step_of}
use Rattle.range.specs.Failing.{first_fail}
use Rattle.range.proofs.NextLaws.{next-same}
use Rattle.ones.specs.Stops.{stop_at}
use Rattle.chunk.specs.Ones.{ones_before}
use Rattle.rle.specs.Runs.{here}
use Rattle.ones.proofs.WordLaws.{length-ones, along-same}
use Rattle.utils.proofs.PairsLaws.{be16-pair}
use Rattle.rle_words.proofs.Turn.{Turn, count_room, count-last, count_next}
use Rattle.rle.proofs.CrateTurn.{added, stop, rest, length-here, here_end, here-zeros, turn}
use Rattle.rle.proofs.list.tally_crate.Goals as goal
use Rattle.rle.proofs.list.tally_crate.Goals.{In-loop-word, After-from_be_bytes-w, Joined-w-ge16384, Joined-covered-ne0}
use Rattle.rle.proofs.list.tally_crate.Goals.{then-w-ge16384+else-stop-covered, else-w-ge16384}
use Rattle.rle.proofs.list.tally_crate.Goals.{then-covered-ne0, else-covered-ne0}

-- by the word w that was read at an index: where it stops, and how many numbers it adds
module _ (end t : ℕ) (bytes : List ℕ) (at start : ℕ) (w : ℕ) (e : w ≡ be16 bytes at) where
  stops : (n : ℕ) → n ≡ stop_at start end t w → n ≡ stop end t bytes at start
  stops n k = k ∙ ap (stop_at start end t) e

  more : (n m : ℕ) → n ≡ stop_at start end t w → m ≡ length (ones_before w n)
      → m ≡ length (added end t (be16 bytes at) start)
  more n m k h = h ∙ length-ones (step_of t) start n w ∙ ap length (along-same start refl (stops n k) e)

-- the word at hand
read : (c : After-from_be_bytes-w) → c.from_be_bytes-w.result ≡ be16 c.args.bytes.now (2 * c.loop-word.word-index)
read c =
    c.from_be_bytes-w.ensures
    ∙ ap (λ (x : List (List ℕ)). from_be_bytes w16 (get_or x c.loop-word.word-index [])) c.as_chunks.ensures.front
    ∙ be16-pair _ c.args.bytes.now c.loop-word.word-index (omega arith)

here-turn : (i : In-loop-word) → let a = i.args in let k = i.loop-word in let at = 2 * k.word-index in
    Turn (here a.end a.thinning a.bytes.now at k.start)
    (added a.end a.thinning (be16 a.bytes.now at) k.start)
    (ltb (stop a.end a.thinning a.bytes.now at k.start) (covers_of (be16 a.bytes.now at)))
    (rest a.end a.thinning a.bytes.now at k.start)
here-turn i = let k = i.loop-word in let a = i.args in
    turn a.end a.thinning a.bytes.now (2 * k.word-index) k.start k.invariant.0 (omega arith)

-- what is counted where the loop goes on
onward : (c : Joined-w-ge16384) → let a = c.args in let k = c.loop-word in let at = 2 * k.word-index in
    c.from_be_bytes-w.result ≡ be16 a.bytes.now at
    → Counting (crate_numbers_from a.end a.thinning a.begin (words16 a.bytes.now))
    (rest a.end a.thinning a.bytes.now at k.start) c.if-w-ge16384.n
onward c p =
    let a = c.args in
    let k = c.loop-word in
    let at = 2 * k.word-index in
    let cov : c.covers-covered.result ≡ covers_of (be16 a.bytes.now at) =
    c.covers-covered.ensures ∙ ap covers_of p in
    let here-turn = turn a.end a.thinning a.bytes.now at k.start k.invariant.0 (omega arith) in
    let zeros = here-zeros a.end a.thinning a.bytes.now at k.start k.invariant.0 (omega arith) in
    elim c.if-w-ge16384.branch [
      | then-w-ge16384+else-stop-covered w ↦
          let s = w.stop_at-stop.ensures in
          let m = more a.end a.thinning a.bytes.now at k.start c.from_be_bytes-w.result p _ _ s w.ones_before-n.ensures in
          let s' = stops a.end a.thinning a.bytes.now at k.start c.from_be_bytes-w.result p _ s in
          let e : covers_of (be16 a.bytes.now at) ≤ stop a.end a.thinning a.bytes.now at k.start =
          rw (← s', ← cov) w.if-stop-covered.false in
          rw w.n-is (count_next here-turn k.invariant.2 m (le-ltb _ _ e))
      | else-w-ge16384 w ↦
          let z : be16 a.bytes.now at < 16384 = rw (← p) w.if-w-ge16384.false in
          rw (w.n-is, ← zeros z) k.invariant.2
    ]

-- the start and the first place that fails, for the next word
next : (c : Joined-covered-ne0) → let a = c.args in let k = c.loop-word in let w = be16 a.bytes.now (2 * k.word-index) in
    c.from_be_bytes-w.result ≡ w
    → (c.if-covered-ne0.start ≡ moved_by (covers_of w) a.thinning k.start)
    × (c.if-covered-ne0.first ≡ first_fail c.if-covered-ne0.start a.end a.thinning)
next c p =
    let a = c.args in
    let k = c.loop-word in
    let covered : c.covers-covered.result ≡ covers_of (be16 a.bytes.now (2 * k.word-index)) =
    c.covers-covered.ensures ∙ ap covers_of p in
    let cov = ap (λ (n : ℕ). moved_by n a.thinning k.start) covered in
    let same = next-same k.start a.end a.thinning c.covers-covered.result k.invariant.0 (omega arith) in
    elim c.if-covered-ne0.branch [
      | then-covered-ne0 w ↦
          (w.start-is ∙ w.moved_by-moved.ensures ∙ cov, rw (w.start-is, w.first-is) w.next_fail-first.ensures)
      | else-covered-ne0 w ↦
          (w.start-is ∙ sym (same w.if-covered-ne0.false) ∙ cov, rw (w.start-is, w.first-is) k.invariant.1)
    ]

pub loop-word-init : goal.loop-word-init
loop-word-init c = (omega arith, c.first_fail-first.ensures, record { count = omega arith })

pub overflow_add-n : goal.overflow_add-n
overflow_add-n c = let a = c.args in
    let k = c.loop-word in
    let here = goal.at.overflow_add-n c in
    let m = more a.end a.thinning a.bytes.now (2 * k.word-index) k.start _ (read here.After-from_be_bytes-w) _ _
    c.stop_at-stop.ensures c.ones_before-n.ensures in
    let few = count_room (here-turn here.In-loop-word) k.invariant.2 m in
    omega (arith, few, length-here a.end a.thinning a.bytes.now a.begin (omega arith) c.requires)

pub returns-then-stop-covered : goal.returns-then-stop-covered
returns-then-stop-covered c = let a = c.args in
    let k = c.loop-word in
    let at = 2 * k.word-index in
    let here = goal.at.returns-then-stop-covered c in
    let p = read here.After-from_be_bytes-w in
    let m = more a.end a.thinning a.bytes.now at k.start _ p _ _ c.stop_at-stop.ensures c.ones_before-n.ensures in
    let s = stops a.end a.thinning a.bytes.now at k.start _ p _ c.stop_at-stop.ensures in
    let cov : c.covers-covered.result ≡ covers_of (be16 a.bytes.now at) = c.covers-covered.ensures ∙ ap covers_of p in
    let e : stop a.end a.thinning a.bytes.now at k.start < covers_of (be16 a.bytes.now at) =
    rw (← s, ← cov) c.if-stop-covered.true in
    count-last (here-turn here.In-loop-word) k.invariant.2 m (lt-ltb _ _ e)

pub loop-word-preserved : goal.loop-word-preserved
loop-word-preserved c = let a = c.args in
    let k = c.loop-word in
    let i = k.word-index in
    let here = goal.at.loop-word-preserved c in
    let p = read here.After-from_be_bytes-w in
    let n = next here.Joined-covered-ne0 p in
    let e : 2 * (i + 1) ≡ 2 * i + 2 = omega arith in
    let small = mod-lt (k.start + covers_of (be16 a.bytes.now (2 * i)) * 2 ^ a.thinning % 65536) (lit< tt) in
    (rw n.0 small, n.1, rw (e, n.0) (onward here.Joined-w-ge16384 p))

pub returns : goal.returns
returns c = let a = c.args in
    let k = here_end a.end a.thinning a.bytes.now (2 * c.loop-word.word-index) c.loop-word.start (omega arith) in
    omega (arith, ap length k, c.loop-word.invariant.2.count)
