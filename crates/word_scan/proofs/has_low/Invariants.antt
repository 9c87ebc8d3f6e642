-- `word_scan::has_low` meets its contract: the word is among those before an index, or among those from there on.
-- Assumes nothing.
use Rattle.std.proofs.Common.{◌*◌, drop}
use Rattle.def_jobs.specs.Jobs.{low16}
use Rattle.word_scan.proofs.ScanLaws.{Seen}
use Rattle.word_scan.proofs.has_low.Given as goal

abbrev pub invariant-loop-word : goal.invariant-loop-word
invariant-loop-word l = Seen l.w (low16 l.bytes) (low16 (drop (2 * l.word-index) l.bytes)) l.found
