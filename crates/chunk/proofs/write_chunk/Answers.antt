-- `chunk::write_chunk` meets its contract: 13, then the two bytes, or 11. Assumes nothing.
use mathlib.Core.Path.{refl, sym, ap, ◌∙◌}
use native.Mathlib.Omega.{arith}
use lib.Seq.{sets-eq}
use Rattle.laws.proofs.Passing.{handed-on}
use Rattle.laws.proofs.Answering.{listed, full, turned-away}
use Rattle.def_standard.specs.Chunks.{word_bytes, bytes_of_made}
use Rattle.def_wire.specs.Bytes.{two}
use Rattle.chunk.proofs.write_chunk.Goals as goal

pub returns-in_err-word : goal.returns-in_err-word
returns-in_err-word c = let a = c.args in
    rw (handed-on _ _ c.from_residual.ensures) (turned-away (word_bytes a.c) a.out.now c.in_err-word.field-0.0
    (ap bytes_of_made (sym c.word_of.ensures ∙ c.in_err-word.was)))

pub returns : goal.returns
returns c = let a = c.args in
    let x = c.in_ok-word.word in
    listed (word_bytes a.c) a.out.now (two x) c.put16.new.out 2
    (ap bytes_of_made (sym c.word_of.ensures ∙ c.in_ok-word.was)) (omega arith)
    (refl, c.put16.ensures ∙ sets-eq (two x) a.out.now 0 (omega arith))

pub returns-then-out-lt2 : goal.returns-then-out-lt2
returns-then-out-lt2 c = let a = c.args in
    full (word_bytes a.c) a.out.now (two c.in_ok-word.word) 2
    (ap bytes_of_made (sym c.word_of.ensures ∙ c.in_ok-word.was)) refl (omega arith)
