-- `builder::put_fields` meets its contract: a header, then SSRC, begin and end.
use Rattle.builder.proofs.BlockLaws.{fields-wrote}
use Rattle.builder.proofs.put_fields.Goals as goal

pub returns : goal.returns
returns c = fields-wrote c.args.body.now c.args.kind c.args.behind c.requires.1 c.put_head-ssrc.ensures
    c.put_number.ensures c.put_word.ensures c.put_word-2.ensures
