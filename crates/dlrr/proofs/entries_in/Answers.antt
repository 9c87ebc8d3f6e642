-- `dlrr::entries_in` meets its contract: the entries of block k of a packet.
use Rattle.laws.proofs.Passing.{handed-on}
use Rattle.dlrr.proofs.EntriesLaws.{entries-asked, entries-missing, entries-refused, entries-as}
use Rattle.def_questions.specs.Questions.{entries_shown}
use Prim.Native.Nat.{ℕ}
use mathlib.Core.List.{List}
use mathlib.Core.Path.{sym, ap, ◌∙◌}
use Rattle.dlrr.proofs.entries_in.Goals as goal

pub returns : goal.returns
returns c = let a = c.args in
    entries-as
    (ap (λ (v : List ℕ). entries_shown a.r v) c.part.ensures.result_value
    ∙ entries-asked a.r a.s.now a.k c.in_ok-at.at c.in_ok-at.n
    (sym c.locate.ensures ∙ c.in_ok-at.was))
    c.entries.ensures

pub returns-in_err-at : goal.returns-in_err-at
returns-in_err-at c = let a = c.args in
    rw (handed-on _ _ c.from_residual.ensures) (entries-refused _ a.ssrcs.now a.lasts.now a.delays.now c.in_err-at.field-0.0
    (entries-missing a.r a.s.now a.k c.in_err-at.field-0.0 (sym c.locate.ensures ∙ c.in_err-at.was)))
