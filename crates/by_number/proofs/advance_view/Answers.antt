-- `by_number::advance_view` meets its contract: at most budget steps of the number cursor in a block's view, asked by
-- a number.
use Rattle.std.specs.Prelude.{Err}
use Rattle.by_number.proofs.ViewLaws.{advance-view-served, filled-view-served}
use Rattle.by_number.proofs.ViewLaws.{advance-view-other, filled-view-other}
use mathlib.Core.Path.{sym, ap, ◌∙◌}
use Rattle.by_number.proofs.advance_view.Goals as goal

pub returns-in-Some : goal.returns-in-Some
returns-in-Some c = let a = c.args in
    let e = sym c.rle_of.ensures ∙ c.in-Some.is in (
      (c.advance.ensures.answer ∙ advance-view-served a.t a.v.now a.c a.budget c.in-Some.a _ e),
      (c.advance.ensures.filled
          ∙ filled-view-served a.t a.v.now a.c a.budget c.in-Some.a a.out.now e),
    )

pub returns-in-None : goal.returns-in-None
returns-in-None c = let a = c.args in
    let e = sym c.rle_of.ensures ∙ c.in-None.is in (
      (ap Err c.unserved.ensures ∙ advance-view-other a.t a.v.now a.c a.budget _ e),
      (filled-view-other a.t a.v.now a.c a.budget a.out.now e),
    )
