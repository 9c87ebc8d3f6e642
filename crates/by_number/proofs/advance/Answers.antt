-- `by_number::advance` meets its contract: at most budget steps of the number cursor in block k, asked by a number.
use Rattle.by_number.proofs.ByLaws.{advance-served, advance-other}
use mathlib.Core.Path.{sym, ◌∙◌}
use Rattle.by_number.proofs.advance.Goals as goal

pub returns-in-Some : goal.returns-in-Some
returns-in-Some c = let a = c.args in
    advance-served a.s.now a.k a.t a.c a.budget a.out.now c.in-Some.a
    c.advance_in.result _
    (sym c.rle_of.ensures ∙ c.in-Some.is) c.advance_in.ensures

pub returns-in-None : goal.returns-in-None
returns-in-None c = let a = c.args in
    rw c.other.ensures (advance-other a.s.now a.k a.t a.c a.budget a.out.now
    (sym c.rle_of.ensures ∙ c.in-None.is))
