-- `portions::too_little` meets its contract: 11. Where the room is enough for any bytes, nothing is counted.
use native.Mathlib.Omega.{arith}
use Rattle.portions.proofs.MostLaws.{most-shown}
use Rattle.portions.proofs.CallLaws.{room-enough, room-short}
use Rattle.portions.proofs.too_little.Goals as goal

pub returns-then-x-room : goal.returns-then-x-room
returns-then-x-room c = let a = c.args in
    let k = most-shown a.st a.x.now in
    room-enough a.st a.x.now a.room (omega (arith, c.if-x-room.true, k))

pub returns-then-needed-room : goal.returns-then-needed-room
returns-then-needed-room c = let a = c.args in
    room-enough a.st a.x.now a.room (omega (arith, c.count-needed.ensures, c.if-needed-room.true))

pub returns : goal.returns
returns c = let a = c.args in
    room-short a.st a.x.now a.room _ c.count-needed.ensures c.if-needed-room.false
