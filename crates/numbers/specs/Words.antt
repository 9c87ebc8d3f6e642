-- The bytes of the chunk words that a reading reads (private): the standard's and the crate's words are their words16.
use Rattle.std.specs.Prelude.{ℕ, ◌-◌, List, take, drop}
use Rattle.def_wire.specs.declared.Reading.{Reading}
use Rattle.def_wire.specs.declared.Reading.TheVariants.{Standard, Crate}
use Rattle.def_wire.specs.Block.{block_length}

abbrev pub word_bytes : Reading → List ℕ → List ℕ
word_bytes Standard v = drop 12 v
word_bytes Crate v = take (block_length v - 14) (drop 12 v)
