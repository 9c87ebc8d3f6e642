-- `frame::write_header` meets its contract: a packet's first eight bytes.
use Rattle.frame.proofs.FrameLaws.{header-wrote}
use Rattle.frame.proofs.write_header.Goals as goal

pub returns : goal.returns
returns c = let a = c.args in
    header-wrote a.out.now c.put16.new.out c.put16-2.new.out c.put32.new.out a.padding a.size
    a.sender c.first_byte.result c.pair.result c.saturating_sub.result c.first_byte.ensures
    c.pair.ensures c.saturating_sub.ensures c.put16.ensures c.put16-2.ensures c.put32.ensures
