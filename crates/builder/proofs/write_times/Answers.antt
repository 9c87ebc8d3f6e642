-- `builder::write_times` meets its contract: fields, then times.
use Rattle.builder.proofs.BlockLaws.{times-wrote}
use Rattle.builder.proofs.write_times.Goals as goal

pub returns : goal.returns
returns c = times-wrote c.args.body.now c.requires.0 c.put_fields-times.ensures c.swap32.ensures
