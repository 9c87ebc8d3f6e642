-- `xport::xr_words_from_marks` meets its contract: the chunk words of marks.
use Rattle.flat.proofs.FlatLaws.{flat-listed}
use mathlib.Core.Path.{refl}
use Rattle.xport.proofs.xr_words_from_marks.Goals as goal

pub returns : goal.returns
returns c = flat-listed refl c.words.ensures c.answer.ensures
