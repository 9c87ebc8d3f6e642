-- `rle::list::at_most` meets its contract: what is summed and what is to come make up the whole. Assumes nothing.
use Rattle.std.proofs.Common.{◌≡◌, ◌+◌, ◌*◌, ℕ, List, [], get_or, drop, ap, ◌∙◌, w16, arith}
use Rattle.std.specs.Int.{from_be_bytes}
use Rattle.def_wire.specs.Bytes.{words16}
use Rattle.utils.proofs.PairsLaws.{be16-pair}
use Rattle.rle.specs.Most.{most_of}
use Rattle.rle.proofs.CrateTurn.{most-end, most-next, most-fits}
use Rattle.rle.proofs.list.at_most.Goals as goal
use Rattle.rle.proofs.list.at_most.Goals.{After-weight-n}

-- the word at hand weighs as much
next : (c : After-weight-n) → let b = c.args.bytes.now in let i = c.loop-word.word-index in
    most_of (words16 (drop (2 * i) b)) ≡ c.weight-n.result + most_of (words16 (drop (2 * i + 2) b))
next c =
    let b = c.args.bytes.now in
    let i = c.loop-word.word-index in
    let w = c.from_be_bytes.ensures
    ∙ ap (λ (x : List (List ℕ)). from_be_bytes w16 (get_or x i [])) c.as_chunks.ensures.front
    ∙ be16-pair _ b i (omega arith) in
    rw (c.weight-n.ensures, w) (most-next b (2 * i) (omega arith))

pub overflow_add-n : goal.overflow_add-n
overflow_add-n c = omega (
  arith,
  next (goal.at.overflow_add-n c).After-weight-n,
  c.loop-word.invariant,
  most-fits c.args.bytes.now c.requires,
)

pub loop-word-preserved : goal.loop-word-preserved
loop-word-preserved c = let i = c.loop-word.word-index in
    let e : 2 * (i + 1) ≡ 2 * i + 2 = omega arith in
    rw e (omega (arith, next (goal.at.loop-word-preserved c).After-weight-n, c.loop-word.invariant))

pub overflow_cast-result : goal.overflow_cast-result
overflow_cast-result c = omega (arith, c.loop-word.invariant, most-fits c.args.bytes.now c.requires)

pub returns : goal.returns
returns c = omega (
  arith,
  c.loop-word.invariant,
  most-end c.args.bytes.now (2 * c.loop-word.word-index) (omega arith),
)
