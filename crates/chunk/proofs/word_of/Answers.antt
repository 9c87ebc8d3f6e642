-- `chunk::word_of` meets its contract: one law for each kind and each side of its limit. Assumes nothing.
use Rattle.std.specs.Prelude.{Ok}
use mathlib.Core.Path.{sym, ap, ◌∙◌}
use Rattle.chunk.proofs.ChunkLaws.{word-null, word-skip, word-run-none, word-run, word-vector}
use Rattle.chunk.proofs.ChunkLaws.{word-skip-over, word-run-over, word-vector-over}
use Rattle.def_standard.specs.Chunks.{word_of}
use Rattle.chunk.proofs.word_of.Goals as goal

pub returns-then-n-eq0 : goal.returns-then-n-eq0
returns-then-n-eq0 c = sym (ap word_of c.in-Run.is ∙ word-run-none c.in-Run.n c.if-n-eq0.true)

pub returns-in-Null : goal.returns-in-Null
returns-in-Null c = sym (ap word_of c.in-Null.is ∙ word-null)

pub returns-then-n-le16383 : goal.returns-then-n-le16383
returns-then-n-le16383 c = sym (ap word_of c.in-Skip.is ∙ word-skip c.in-Skip.n c.if-n-le16383.true)

pub returns-else-n-le16383 : goal.returns-else-n-le16383
returns-else-n-le16383 c = sym (ap word_of c.in-Skip.is ∙ word-skip-over c.in-Skip.n c.if-n-le16383.false)

pub returns-then-n-le16383-2 : goal.returns-then-n-le16383-2
returns-then-n-le16383-2 c = ap Ok c.run_word.ensures
    ∙ sym (ap word_of c.in-Run.is ∙ word-run c.in-Run.n c.if-n-eq0.false c.if-n-le16383-2.true)

pub returns-else-n-le16383-2 : goal.returns-else-n-le16383-2
returns-else-n-le16383-2 c = sym (ap word_of c.in-Run.is ∙ word-run-over c.in-Run.n c.if-n-le16383-2.false)

pub returns-then-v-le32767 : goal.returns-then-v-le32767
returns-then-v-le32767 c = ap Ok c.vector_word.ensures
    ∙ sym (ap word_of c.in-Vector.is ∙ word-vector c.in-Vector.v c.if-v-le32767.true)

pub returns-else-v-le32767 : goal.returns-else-v-le32767
returns-else-v-le32767 c = sym (ap word_of c.in-Vector.is ∙ word-vector-over c.in-Vector.v c.if-v-le32767.false)
