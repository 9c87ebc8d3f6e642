-- `print::byte` meets its contract: one byte, into room, to the front of a full buffer, or to a buffer of no bytes.
use Rattle.print.proofs.AddedLaws.{byte-room, byte_full, byte-lost}
use Rattle.print.proofs.byte.Goals as goal

pub returns-then-at-buf : goal.returns-then-at-buf
returns-then-at-buf c = byte-room _ c.if-at-buf.true

pub returns-then-buf-gt0 : goal.returns-then-buf-gt0
returns-then-buf-gt0 c = byte_full _ c.if-at-buf.false c.if-buf-gt0.true

pub returns : goal.returns
returns c = byte-lost _ c.if-at-buf.false c.if-buf-gt0.false
