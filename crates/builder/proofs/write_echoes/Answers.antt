-- `builder::write_echoes` meets its contract: a header, then the entries' numbers.
use Rattle.laws.proofs.Stores.{and_then}
use Rattle.builder.proofs.write_echoes.Goals as goal

pub returns : goal.returns
returns c = and_then c.put_head-entries.ensures c.swap32.ensures
