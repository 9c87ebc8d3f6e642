-- `ask_portions::calls` meets its contract: the sizes and the bytes behind them, and so much room in each list.
-- Assumes nothing.
use native.Mathlib.Omega.{arith}
use Rattle.print.proofs.AddedLaws.{reads}
use Rattle.ask_portions.proofs.CallsTurn.{request-text}
use Rattle.ask_portions.proofs.calls.Goals as goal

pub returns : goal.returns
returns c = let l = c.min-room.ensures in
    reads (request-text _ _ _ _ _ _ _ c.min-room.result c.u16_from_le_bytes-n.ensures
    (rw c.u32_from_le_bytes.ensures at l) (omega (arith, l)) (omega (arith, l)) (omega (arith, l))
    (omega (arith, l))
    c.part.ensures.result_value) c.calls_into.ensures
