-- `rle_words::list_words` meets its contract: the loop fills from the front. Assumes nothing.
use Rattle.std.proofs.Common.{◌*◌, drop}
use Rattle.def_wire.specs.Bytes.{words16}
use Rattle.laws.proofs.Filling.{Filling}
use Rattle.rle_words.proofs.list_words.Given as goal

abbrev pub invariant-loop-n : goal.invariant-loop-n
invariant-loop-n l = Filling (words16 l.bytes) l.initial.out l.out (words16 (drop (2 * l.n) l.bytes)) l.n
