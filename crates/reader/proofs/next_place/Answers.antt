-- `reader::next_place` meets its contract: within the packet L further on, and past its end the same place.
use Rattle.reader.proofs.PlacesLaws.{next-within, next_past}
use Rattle.reader.proofs.next_place.Goals as goal

pub returns-then-at-s : goal.returns-then-at-s
returns-then-at-s c = let a = c.args in
    next-within a.s.now a.at c.length_from.result c.if-at-s.true c.length_from.ensures.0

pub returns : goal.returns
returns c = let a = c.args in next_past a.s.now a.at c.if-at-s.false
