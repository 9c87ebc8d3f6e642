-- `marks::words` meets its contract: the refusals before 11, and the words.
use mathlib.Core.Path.{sym, ◌∙◌}
use Rattle.laws.proofs.Passing.{handed-on}
use Rattle.laws.proofs.Answering.{turned-away}
use Rattle.marked.proofs.FaultLaws.{fault-fine, asked-fine, asked-unfit}
use Rattle.marks.proofs.words.Goals as goal

pub make-requires : goal.make-requires
make-requires c = let ms = c.args.marks.now in
    let fine = fault-fine ms (sym c.fault.ensures ∙ c.in_ok-fault.was) in (fine.1, fine.0)

pub returns : goal.returns
returns c = let ms = c.args.marks.now in
    rw (asked-fine ms (sym c.fault.ensures ∙ c.in_ok-fault.was)) c.make.ensures

pub returns-in_err-fault : goal.returns-in_err-fault
returns-in_err-fault c = let a = c.args in
    rw (handed-on _ _ c.from_residual.ensures) (turned-away _ a.out.now c.in_err-fault.field-0.0
    (asked-unfit a.marks.now c.in_err-fault.field-0.0 (sym c.fault.ensures ∙ c.in_err-fault.was)))
