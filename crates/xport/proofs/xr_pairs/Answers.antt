-- `xport::xr_pairs` meets its contract: the pairs of block k, of type 3, into two lists side by side.
use Rattle.def_questions.specs.Packets.{pairs_asked}
use Rattle.flat.proofs.FlatLaws.{flat-pairs}
use mathlib.Core.Path.{ap}
use Rattle.xport.proofs.xr_pairs.Goals as goal

pub returns : goal.returns
returns c = let a = c.args in
    flat-pairs (ap (λ r. pairs_asked r a.packet.now a.k) c.reading.ensures) c.pairs_in.ensures
    c.answer.ensures
