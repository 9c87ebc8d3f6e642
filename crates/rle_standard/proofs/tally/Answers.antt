-- `rle_standard::tally` meets its contract: what is counted and what is still to be listed make up the whole, for
-- every range with as many positions inside; and a run of no length is among the words gone through, or behind them.
-- Assumes nothing.
use Rattle.std.proofs.Common.{◌+◌, ◌-◌, ◌*◌, ◌≤◌, ◌<◌, ◌≡◌, ℕ, List, [], ◌∷◌, get_or, sym, ap, ◌∙◌, w16, arith}
use Rattle.std.specs.Int.{from_be_bytes}
use borrow.Author.Tests.{le-leb, lt-leb}
use lib.Dec.{leb}
use lib.ListN.{length, drop}
use Rattle.def_wire.specs.Bytes.{words16, be16}
use Rattle.def_wire.specs.Block.{lost_run}
use Rattle.def_standard.specs.declared.Range.{Range}
use Rattle.def_standard.specs.Chunks.{covers_of}
use Rattle.def_standard.specs.Range.{number_of}
use Rattle.range.specs.Inside.{inside_count}
use Rattle.range.proofs.InsideLaws.{inside-count-le}
use Rattle.ones.proofs.NumbersLaws.{length-numbers}
use Rattle.ones.proofs.WordLaws.{length-ones}
use Rattle.word_scan.proofs.ScanLaws.{seen_none, seen_here, seen-on}
use Rattle.utils.proofs.PairsLaws.{be16-pair}
use Rattle.rle_words.proofs.Turn.{words-end, words-cons, Turn, count_room, count-last, count_next}
use Rattle.rle_standard.proofs.StandardTurn.{here, added, here-start, here_end, count_turn}
use Rattle.rle_standard.proofs.tally.Goals as goal
use Rattle.rle_standard.proofs.tally.Goals.{At-loop-i, Joined-w-eq16384, After-from_be_bytes-w, After-ones_before-n}
use Rattle.rle_standard.proofs.tally.Goals.{then-w-eq16384, else-w-eq16384}
use Rattle.rle_standard.proofs.tally.Invariants.{Counts, Looked}

-- the word at hand
read : (c : After-from_be_bytes-w) → c.from_be_bytes-w.result ≡ be16 c.args.bytes.now (2 * c.loop-i.i)
read c =
    c.from_be_bytes-w.ensures
    ∙ ap (λ (x : List (List ℕ)). from_be_bytes w16 (get_or x c.loop-i.i [])) c.as_chunks.ensures.front
    ∙ be16-pair _ c.args.bytes.now c.loop-i.i (omega arith)

-- the range's own count
own : (l : At-loop-i) → let a = l.args in
    Counts a.g a.bytes.now l.loop-i.left (2 * l.loop-i.i) l.loop-i.n
own l =
    l.loop-i.invariant.0 l.args.g l.inside_count-left.ensures

-- the words gone through with the word at hand
looked : (c : Joined-w-eq16384) → c.from_be_bytes-w.result ≡ be16 c.args.bytes.now (2 * c.loop-i.i)
    → Looked c.args.bytes.now (2 * c.loop-i.i + 2) c.if-w-eq16384.lost
looked c read =
    let b = c.args.bytes.now in
    let at = 2 * c.loop-i.i in
    let x = c.from_be_bytes-w.result in
    let rest = words16 (drop (at + 2) b) in
    let e : words16 (drop at b) ≡ x ∷ rest = rw read (words-cons b at (omega arith)) in
    let s = c.loop-i.invariant.1 in
    elim c.if-w-eq16384.branch [
      | then-w-eq16384 w ↦ rw w.lost-is (seen_here s x rest e w.if-w-eq16384.true)
      | else-w-eq16384 w ↦ rw w.lost-is (seen-on s x rest e w.if-w-eq16384.false)
    ]

-- the word's turn, and as many as it adds
module _ (c : After-ones_before-n) (g : Range) where
  abbrev word : ℕ
  word = be16 c.args.bytes.now (2 * c.loop-i.i)

  abbrev numbers : List ℕ
  numbers = added g word c.loop-i.left (number_of g (inside_count g - c.loop-i.left))

  here-turn : let l = c.loop-i in let b = c.args.bytes.now in l.left ≤ inside_count g
      → Turn (here g b (2 * l.i) l.left) numbers (leb l.left (covers_of word))
      (here g b (2 * l.i + 2) (l.left - covers_of word))
  here-turn low = count_turn g c.args.bytes.now (2 * c.loop-i.i) c.loop-i.left low (omega arith)

  more : c.from_be_bytes-w.result ≡ word → c.ones_before-n.result ≡ length numbers
  more read = rw (← read) (c.ones_before-n.ensures ∙ length-ones _ _ c.loop-i.left c.from_be_bytes-w.result)

pub loop-i-init : goal.loop-i-init
loop-i-init c = let b = c.args.bytes.now in (
  (λ g e. (omega (arith, e), rw (e, ← here-start g b) (record { count = omega arith }))),
  seen_none lost_run (words16 b),
)

pub overflow_add-n : goal.overflow_add-n
overflow_add-n c = let at = goal.at.overflow_add-n c in
    let g = c.args.g in
    let o = own at.At-loop-i in
    let k = count_room (here-turn at.After-ones_before-n g o.0) o.1 (more at.After-ones_before-n g (read at.After-from_be_bytes-w)) in
    omega (arith, k, length-numbers g (words16 c.args.bytes.now), inside-count-le g)

pub returns-then-left-covered : goal.returns-then-left-covered
returns-then-left-covered c = let at = goal.at.returns-then-left-covered c in
    let g = c.args.g in
    let o = own at.At-loop-i in
    let w = read at.After-from_be_bytes-w in
    let e = rw (c.covers-covered.ensures, w) at c.if-left-covered.true in
    record {
      n_value = count-last (here-turn at.After-ones_before-n g o.0) o.1 (more at.After-ones_before-n g w) (le-leb _ _ e);
      bytes_value = (looked at.Joined-w-eq16384 w).by;
    }

pub loop-i-preserved : goal.loop-i-preserved
loop-i-preserved c = let at = goal.at.loop-i-preserved c in
    let w = read at.After-from_be_bytes-w in
    let cov = c.covers-covered.ensures ∙ ap covers_of w in
    let e : covers_of (be16 c.args.bytes.now (2 * c.loop-i.i)) < c.loop-i.left = rw cov at c.if-left-covered.false in
    let n : 2 * (c.loop-i.i + 1) ≡ 2 * c.loop-i.i + 2 = omega arith in (
      (λ g z. let o = c.loop-i.invariant.0 g z in (
        omega (arith, o.0),
        rw (n, cov) (count_next (here-turn at.After-ones_before-n g o.0) o.1 (more at.After-ones_before-n g w) (lt-leb _ _ e)),
      )),
      rw n (looked at.Joined-w-eq16384 w),
    )

pub returns : goal.returns
returns c = let a = c.args in
    let b = a.bytes.now in
    let at = 2 * c.loop-i.i in
    let k = here_end a.g b at c.loop-i.left (omega arith) in
    let none : words16 (drop (length b) b) ≡ words16 (drop at b) =
    words-end b (length b) (omega arith) ∙ sym (words-end b at (omega arith)) in
    record {
      n_value = omega (arith, ap length k, (own (goal.at.returns c).At-loop-i).1.count);
      bytes_value = rw none c.loop-i.invariant.1.by;
    }
