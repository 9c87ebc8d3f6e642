-- `lent::stands` meets its contract: whether the pattern stands from an index on.
use Rattle.std.proofs.Common.{◌∙◌, rules}
use Rattle.std.proofs.lemmas.Iterator.{YieldsList-from_slice}
use Rattle.std.proofs.lemmas.Iterator.Adapters.{YieldsList-from_skip}
use Rattle.std.proofs.lemmas.Iterator.Consumers.{YieldsList-from_enumerate}
use Rattle.std.proofs.lemmas.Iterator.Search.{all_from_yields_List}
use Rattle.lent.proofs.PatternLaws.{stands-listed}
use Rattle.lent.proofs.stands.Goals as goal

pub returns : goal.returns
returns g c =
    let same = g.T.PartialEq.eq in
    let mark = g.T.Marked.mark_of in
    let e = YieldsList-from_skip c.args.from
    (YieldsList-from_enumerate (YieldsList-from_slice c.args.list.now cc) cc) c.skip.ensures.count in
    all_from_yields_List (λ p. same p.1 (mark p.0)) _ _ _ c.all.ensures.ran e (λ x b q k. search rules)
    ∙ stands-listed same mark c.args.from c.args.list.now
