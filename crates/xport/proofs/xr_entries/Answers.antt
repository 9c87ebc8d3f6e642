-- `xport::xr_entries` meets its contract: the entries of block k, of type 5.
use Rattle.def_questions.specs.Packets.{entries_asked}
use Rattle.flat.proofs.FlatLaws.{flat-entries}
use mathlib.Core.Path.{ap}
use Rattle.xport.proofs.xr_entries.Goals as goal

pub returns : goal.returns
returns c = let a = c.args in
    flat-entries (ap (λ r. entries_asked r a.packet.now a.k) c.reading.ensures) c.entries_in.ensures
    c.answer.ensures
