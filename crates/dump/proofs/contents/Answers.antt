-- `dump::contents` meets its contract: what a block of a kind shows.
use mathlib.Core.Path.{sym, ap}
use Rattle.print.proofs.AddedLaws.{reads}
use Rattle.def_wire.specs.declared.Kind.{Kind}
use Rattle.def_dump.specs.Dump.{contents_of}
use Rattle.dump.proofs.DumpLaws.{clock-contents, echo-contents, statistics-contents}
use Rattle.dump.proofs.contents.Goals as goal

pub returns-in-Spans : goal.returns-in-Spans
returns-in-Spans c = let a = c.args in
    reads (ap (λ (k : Kind). contents_of a.r k a.v.now) (sym c.in-Spans.is))
    c.ranged.ensures

pub returns-in-Clock : goal.returns-in-Clock
returns-in-Clock c = reads (clock-contents _ _ _ c.in-Clock.is)
    c.time_or.ensures

pub returns-in-Echoes : goal.returns-in-Echoes
returns-in-Echoes c = reads (echo-contents _ _ _ c.in-Echoes.is)
    c.entries_or.ensures

pub returns-in-Statistics : goal.returns-in-Statistics
returns-in-Statistics c = reads (statistics-contents _ _ _ c.in-Statistics.is)
    c.summary_or.ensures
