-- `loss_list::put_list` meets its contract: both records.
use Rattle.loss_list.proofs.ListLaws.{list_wrote}
use Rattle.loss_list.proofs.put_list.Goals as goal

pub returns : goal.returns
returns c = let a = c.args in
    list_wrote a.sender a.media a.begin a.end a.words.now c.put_header-record.ensures
    c.put_head-fields.ensures c.put_fields-first.ensures c.put_words.ensures
