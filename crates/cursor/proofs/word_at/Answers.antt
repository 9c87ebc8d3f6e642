-- `cursor::word_at` meets its contract: the word at an index of the words.
use Rattle.utils.proofs.BytesLaws.{length-pair_up, get_or-pair_up}
use mathlib.Core.Path.{sym, ◌∙◌}
use native.Mathlib.Omega.{arith}
use Rattle.cursor.proofs.word_at.Goals as goal

pub overflow_mul-at : goal.overflow_mul-at
overflow_mul-at c = omega (arith, length-pair_up 256 c.args.bytes.now, c.requires)

pub bounds-bytes-at : goal.bounds-bytes-at
bounds-bytes-at c = omega (
  arith,
  length-pair_up 256 c.args.bytes.now,
  c.requires,
)

pub overflow_add-at : goal.overflow_add-at
overflow_add-at c = omega (arith, length-pair_up 256 c.args.bytes.now, c.requires)

pub bounds-bytes-at-2 : goal.bounds-bytes-at-2
bounds-bytes-at-2 c = omega (
  arith,
  length-pair_up 256 c.args.bytes.now,
  c.requires,
)

pub returns : goal.returns
returns c = let b = c.args.bytes.now in
    c.pair.ensures ∙ sym (get_or-pair_up 256 b c.args.i (omega (arith, length-pair_up 256 b, c.requires)))
