-- `stats::summary_from` meets its contract: each number by its own flag.
use Rattle.def_wire.specs.Summary.{summary_from}
use Rattle.stats.proofs.ShownLaws.{count-if, jitter-if}
use Rattle.stats.proofs.summary_from.Goals as goal

pub returns : goal.returns
unfolding summary_from
returns c =
    rw (
      c.hops_by.ensures,
      c.then_some-3.ensures,
      c.is_set-3.ensures,
      c.then_some-2.ensures,
      c.is_set-2.ensures,
      c.then_some.ensures,
      c.is_set.ensures,
      count-if,
      jitter-if,
    )
