-- `xport::xr_words` meets its contract: the chunk words of block k, asked as type t.
use Rattle.flat.proofs.FlatLaws.{flat-listed}
use Rattle.def_questions.specs.ByNumber.{words_by}
use mathlib.Core.Path.{ap}
use Rattle.xport.proofs.xr_words.Goals as goal

pub returns : goal.returns
returns c = let a = c.args in
    flat-listed (ap (λ r. words_by r a.packet.now a.k a.t) c.reading.ensures) c.words.ensures
    c.answer.ensures
