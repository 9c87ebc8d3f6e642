-- `stats::flags_of` meets its contract: a sum of the four flags.
use Rattle.def_wire.specs.Summary.{flags_of}
use Rattle.stats.proofs.ShownLaws.{count-flag, jitter-flag}
use Rattle.stats.proofs.flags_of.Goals as goal

pub returns : goal.returns
unfolding flags_of
returns c =
    let s = c.args.s in
    rw (
      c.toh_of.ensures.0,
      c.flag-3.ensures.0,
      c.flag-2.ensures.0,
      c.flag.ensures.0,
      jitter-flag s.jitter,
      count-flag 64 s.duplicates,
      count-flag 128 s.lost,
    )
