-- `cursor::is_legal` meets its contract: A place of the words or their end, with a position of at most 65,536.
use Rattle.cursor.proofs.LegalLaws.{illegal-position, legal-at-word, legal-at-end, illegal-word}
use Rattle.utils.proofs.BytesLaws.{length-pair_up}
use Rattle.def_wire.specs.Bytes.{words16}
use lib.ListN.{length}
use Prim.Native.Nat.{◌<◌}
use mathlib.Core.Path.{◌≡◌, sym, ◌∙◌}
use native.Mathlib.Omega.{arith}
use Rattle.cursor.proofs.is_legal.Goals as goal

pub returns-then-c-gt65536 : goal.returns-then-c-gt65536
returns-then-c-gt65536 c = let a = c.args in
    sym (illegal-position (words16 a.bytes.now) a.c c.if-c-gt65536.true)

pub word_at-requires : goal.word_at-requires
word_at-requires c = omega (
  arith,
  length-pair_up 256 c.args.bytes.now,
  c.if-i-words.true,
)

pub returns-then-i-words : goal.returns-then-i-words
returns-then-i-words c = let a = c.args in
    let h : a.c.word < length (words16 a.bytes.now) = omega
    (arith, length-pair_up 256 a.bytes.now, c.if-i-words.true) in
    rw (c.steps_in.ensures, c.word_at.ensures)
    (sym (legal-at-word (words16 a.bytes.now) a.c c.if-c-gt65536.false h))

pub returns-then-i-words-2 : goal.returns-then-i-words-2
returns-then-i-words-2 c = let a = c.args in
    let h : a.c.word ≡ length (words16 a.bytes.now) = c.if-i-words-2.true ∙ sym (length-pair_up 256 a.bytes.now) in
    sym (legal-at-end (words16 a.bytes.now) a.c c.if-c-gt65536.false h)

pub returns : goal.returns
returns c = let a = c.args in
    let h : length (words16 a.bytes.now) < a.c.word = omega
    (arith, length-pair_up 256 a.bytes.now, c.if-i-words-2.false, c.if-i-words.false) in
    sym (illegal-word (words16 a.bytes.now) a.c c.if-c-gt65536.false h)
