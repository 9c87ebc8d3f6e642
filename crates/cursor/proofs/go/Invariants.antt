-- `cursor::go` meets its contract: at most budget steps from a legal cursor, word by word.
use Rattle.cursor.proofs.GoTurn.{Going}
use Rattle.def_cursor.specs.Cursor.{listed_by}
use Rattle.laws.proofs.Filling.{Filling}
use Rattle.def_wire.specs.Bytes.{words16}
use Rattle.cursor.proofs.go.Given as goal

abbrev pub invariant-loop-left : goal.invariant-loop-left
invariant-loop-left l =
    Going (words16 l.bytes) l.initial.at l.budget l.at l.left × Filling (listed_by l.g (words16 l.bytes) l.budget l.initial.at) l.initial.out l.out
    (listed_by l.g (words16 l.bytes) l.left l.at) l.n

abbrev pub decreases-loop-left : goal.decreases-loop-left
decreases-loop-left l =
    l.left
