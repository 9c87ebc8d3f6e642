-- `by_number::numbers` meets its contract: block k's numbers, asked by a number.
use Rattle.std.specs.Prelude.{Err}
use Rattle.by_number.proofs.ByLaws.{numbers-served, numbers-other}
use Rattle.numbers.proofs.AskedLaws.{listed-as}
use Rattle.laws.proofs.Answering.{turned-away}
use mathlib.Core.Path.{sym, ap, ◌∙◌}
use Rattle.by_number.proofs.numbers.Goals as goal

pub returns-in-Some : goal.returns-in-Some
returns-in-Some c = let a = c.args in
    listed-as (numbers-served a.r a.s.now a.k a.t c.in-Some.a
    (sym c.rle_of.ensures ∙ c.in-Some.is)) c.numbers_in.ensures

pub returns-in-None : goal.returns-in-None
returns-in-None c = let a = c.args in
    turned-away _ a.out.now c.other.result
    (numbers-other a.r a.s.now a.k a.t (sym c.rle_of.ensures ∙ c.in-None.is)
    ∙ ap Err (sym c.other.ensures))
