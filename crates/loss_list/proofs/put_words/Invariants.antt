-- `loss_list::put_words` meets its contract: the words one by one.
use lib.ListN.{drop}
use Rattle.def_jobs.specs.Layout.{bytes_of}
use Rattle.def_marks.specs.Report.{low2}
use Rattle.laws.proofs.Filling.{Storing}
use Rattle.loss_list.proofs.put_words.Given as goal

abbrev pub invariant-loop-word : goal.invariant-loop-word
invariant-loop-word l =
    Storing l.initial.out l.at (bytes_of low2 l.words) l.out (bytes_of low2 (drop l.word-index l.words)) l.n
