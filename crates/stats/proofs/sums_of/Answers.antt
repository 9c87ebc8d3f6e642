-- `stats::sums_of` meets its contract: each number, 0 where it is absent.
use Rattle.def_wire.specs.Summary.{sums_of}
use Rattle.stats.proofs.ShownLaws.{given, jitter-given}
use Rattle.stats.proofs.sums_of.Goals as goal

pub returns : goal.returns
unfolding sums_of
returns c =
    let n = c.args.s in
    rw (
      c.hops_of.ensures,
      c.unwrap_or-3.ensures,
      c.unwrap_or-2.ensures,
      c.unwrap_or.ensures,
      jitter-given n.jitter,
      given n.duplicates,
      given n.lost,
    )
