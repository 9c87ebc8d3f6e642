-- `xport::xr_chunk` meets its contract: makes one chunk word of a kind (0 Null, 1 a run of zeros, 2 a run of ones,
-- else a vector), big-endian.
use Rattle.def_standard.specs.Chunks.{word_bytes}
use Rattle.flat.proofs.FlatLaws.{flat-listed}
use mathlib.Core.Path.{ap}
use Rattle.xport.proofs.xr_chunk.Goals as goal

pub returns : goal.returns
returns c = flat-listed (ap word_bytes c.kind.ensures) c.write_chunk.ensures c.answer.ensures
