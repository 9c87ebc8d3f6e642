-- `reader::length_from` meets its contract: L by the four bytes that begin at the place.
use Rattle.reader.proofs.PlacesLaws.{length-header}
use Rattle.reader.proofs.length_from.Goals as goal

pub returns : goal.returns
returns c = let a = c.args in (
  length-header a.s.now a.at c.part.result.now c.header_data.result c.block_length.result
      c.part.ensures.result_value c.header_data.ensures c.block_length.ensures.0,
  c.block_length.ensures.1,
)
