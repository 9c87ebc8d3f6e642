-- `rle::list::at_most` meets its contract: what is summed and what is to come make up the whole. Assumes nothing.
use Rattle.std.proofs.Common.{◌≡◌, ◌+◌, ◌*◌, drop}
use Rattle.def_wire.specs.Bytes.{words16}
use Rattle.rle.specs.Most.{most_of}
use Rattle.rle.proofs.list.at_most.Given as goal

abbrev pub invariant-loop-word : goal.invariant-loop-word
invariant-loop-word l = l.n + most_of (words16 (drop (2 * l.word-index) l.bytes)) ≡ most_of (words16 l.bytes)
