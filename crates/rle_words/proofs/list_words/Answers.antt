-- `rle_words::list_words` meets its contract: the loop fills from the front. Assumes nothing.
use Rattle.std.proofs.Common.{◌≡◌, ◌+◌, ◌*◌, ℕ, List, [], get_or, sym, ap, ◌∙◌, w16, arith}
use Rattle.std.specs.Int.{from_be_bytes}
use Rattle.laws.proofs.Filling.{within, put, done}
use Rattle.utils.proofs.BytesLaws.{length-pair_up}
use Rattle.utils.proofs.PairsLaws.{be16-pair}
use Rattle.rle_words.proofs.Turn.{words-cons, words-end}
use Rattle.rle_words.proofs.list_words.Goals as goal

pub bounds-out-n : goal.bounds-out-n
bounds-out-n c = within (words-cons c.args.bytes.now (2 * c.loop-n.n) (omega arith)) c.loop-n.invariant

pub loop-n-preserved : goal.loop-n-preserved
loop-n-preserved c = let s = c.args.bytes.now in
    let i = c.loop-n.n in
    let e : 2 * (i + 1) ≡ 2 * i + 2 = omega arith in
    let x = c.from_be_bytes.ensures
    ∙ ap (λ (x : List (List ℕ)). from_be_bytes w16 (get_or x i [])) c.as_chunks.ensures.front
    ∙ be16-pair _ s i (omega arith) in
    rw (e, x) (put (words-cons s (2 * i) (omega arith)) c.loop-n.invariant)

pub returns : goal.returns
returns c = let s = c.args.bytes.now in
    (c.as_chunks.ensures.front_len ∙ sym (length-pair_up 256 s), (done (words-end s (2 * c.loop-n.n) (omega arith)) c.loop-n.invariant).1)
