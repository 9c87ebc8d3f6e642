-- `rle_standard::list::list_standard` meets its contract: the loop fills from the front, with `left` positions still
-- inside. Assumes nothing.
use Rattle.std.proofs.Common.{◌+◌, ◌-◌, ◌*◌, ◌^◌, ◌≤◌, ◌<◌, ◌≡◌, ℕ, List, [], get_or, ap, ◌∙◌, w16, arith}
use Rattle.std.specs.Int.{from_be_bytes}
use native.Mathlib.Nat.{one-mul}
use borrow.Author.Rules.{rules}
use borrow.Author.Tests.{le-leb, lt-leb}
use lib.Dec.{leb}
use Rattle.def_wire.specs.Bytes.{be16}
use Rattle.def_standard.specs.Chunks.{covers_of}
use Rattle.laws.specs.Stores.{Wrote}
use Rattle.laws.proofs.Filling.{start, skip, done}
use Rattle.range.specs.Steps.{step_of}
use Rattle.utils.proofs.PairsLaws.{be16-pair}
use Rattle.rle_words.proofs.Turn.{Turn, fill-room, fill-last, fill-next}
use Rattle.rle_standard.proofs.StandardTurn.{begin-standing, next-standing}
use Rattle.rle_standard.proofs.StandardTurn.{here, added, here-start, here_end, turn}
use Rattle.rle_standard.proofs.list.list_standard.Goals as goal
use Rattle.rle_standard.proofs.list.list_standard.Goals.{After-from_be_bytes-w, After-store_word-n, At-loop-word, In-loop-word}

-- the step that is computed once
stepped : (l : At-loop-word) → l.doubled-step.result ≡ step_of l.args.g.thinning
stepped l =
    l.doubled-step.ensures ∙ (rw (one-mul (2 ^ l.args.g.thinning)))

-- the word at hand
word : (c : After-from_be_bytes-w) → c.from_be_bytes-w.result ≡ be16 c.args.bytes.now (2 * c.loop-word.word-index)
word c =
    c.from_be_bytes-w.ensures
    ∙ ap (λ (x : List (List ℕ)). from_be_bytes w16 (get_or x c.loop-word.word-index [])) c.as_chunks.ensures.front
    ∙ be16-pair _ c.args.bytes.now c.loop-word.word-index (omega arith)

-- they were stored
stored : (c : After-store_word-n) → let k = c.loop-word in let w = be16 c.args.bytes.now (2 * k.word-index) in
    c.from_be_bytes-w.result ≡ w
    → Wrote k.out k.n (added c.args.g w k.left k.first) c.store_word-n.new.out c.store_word-n.result
stored c word =
    let stepped : c.doubled-step.result ≡ step_of c.args.g.thinning = c.doubled-step.ensures ∙ (rw (one-mul (2 ^ c.args.g.thinning))) in
    rw (← stepped, ← word) c.store_word-n.ensures

-- the word's turn
here-turn : (i : In-loop-word) → let k = i.loop-word in let a = i.args in let at = 2 * k.word-index in
    Turn (here a.g a.bytes.now at k.left) (added a.g (be16 a.bytes.now at) k.left k.first)
    (leb k.left (covers_of (be16 a.bytes.now at)))
    (here a.g a.bytes.now (at + 2) (k.left - covers_of (be16 a.bytes.now at)))
here-turn i =
    let k = i.loop-word in let a = i.args in
    turn a.g a.bytes.now (2 * k.word-index) k.left k.first k.invariant.0 (omega arith)

pub loop-word-init : goal.loop-word-init
loop-word-init c = let a = c.args in
    let k = c.inside_count-left.ensures in
    let e = here-start a.g a.bytes.now in
    (rw k (begin-standing a.g (search rules)), rw k (skip e (start (omega arith))))

pub store_word-n-requires : goal.store_word-n-requires
store_word-n-requires c = let at = goal.at.store_word-n-requires c in
    rw (stepped at.At-loop-word, word at.After-from_be_bytes-w) (fill-room (here-turn at.In-loop-word) c.loop-word.invariant.1)

pub returns-then-left-covered : goal.returns-then-left-covered
returns-then-left-covered c = let at = goal.at.returns-then-left-covered c in
    let k : c.loop-word.left ≤ covers_of (be16 c.args.bytes.now (2 * c.loop-word.word-index)) =
    rw (← word at.After-from_be_bytes-w, ← c.covers-covered.ensures) c.if-left-covered.true in
    fill-last (here-turn at.In-loop-word) c.loop-word.invariant.1 (stored at.After-store_word-n (word at.After-from_be_bytes-w)) (le-leb _ _ k)

pub loop-word-preserved : goal.loop-word-preserved
loop-word-preserved c = let at = goal.at.loop-word-preserved c in
    let i = c.loop-word.word-index in
    let cov = c.covers-covered.ensures ∙ ap covers_of (word at.After-from_be_bytes-w) in
    let k : covers_of (be16 c.args.bytes.now (2 * i)) < c.loop-word.left = rw cov at c.if-left-covered.false in
    let s = next-standing c.args.g c.loop-word.left c.loop-word.first _ k c.loop-word.invariant.0 in
    let f = fill-next (here-turn at.In-loop-word) c.loop-word.invariant.1 (stored at.After-store_word-n (word at.After-from_be_bytes-w)) (lt-leb _ _ k) in
    let e : 2 * (i + 1) ≡ 2 * i + 2 = omega arith in
    (rw (c.moved_by-first.ensures, cov) s, rw (e, cov) f)

pub returns : goal.returns
returns c = let a = c.args in
    done (here_end a.g a.bytes.now (2 * c.loop-word.word-index) c.loop-word.left (omega arith)) c.loop-word.invariant.1
