-- `rle_standard::list::list_standard` meets its contract: the loop fills from the front, with `left` positions still
-- inside. Assumes nothing.
use Rattle.std.proofs.Common.{◌*◌}
use Rattle.def_wire.specs.Bytes.{words16}
use Rattle.def_standard.specs.Standard.{numbers_of}
use Rattle.laws.proofs.Filling.{Filling}
use Rattle.rle_standard.proofs.StandardTurn.{Standing, here}
use Rattle.rle_standard.proofs.list.list_standard.Given as goal

abbrev pub invariant-loop-word : goal.invariant-loop-word
invariant-loop-word l =
    Standing l.g l.left l.first
    × Filling (numbers_of l.g (words16 l.bytes)) l.initial.out l.out (here l.g l.bytes (2 * l.word-index) l.left) l.n
