-- `portions::put_item` meets its contract: a word's numbers at once, any other item's event, or none.
use mathlib.Core.Path.{◌≡◌, sym, ◌∙◌}
use native.Mathlib.Omega.{arith}
use lib.ListN.{take}
use Rattle.def_standard.specs.Chunks.{values_in}
use Rattle.ones.specs.Along.{along}
use Rattle.states.specs.Steps.{low16, numbers_in}
use Rattle.portions.proofs.ItemLaws.{numbers-stored, length-word, word-laid, length-lone, lone-laid}
use Rattle.portions.proofs.ItemLaws.{nothing-laid}
use Rattle.portions.proofs.put_item.Goals as goal
use Rattle.portions.proofs.put_item.Goals.{After-low16}

numbers : (c : After-low16) → let s = c.args.st in
    along c.doubled-step.result s.known.next
    (take s.known.inside (values_in c.low16.result)) ≡ numbers_in s.known (low16 s.held)
numbers c =
    let s = c.args.st in
    numbers-stored s.known s.held _ _ _ c.thinning_of.ensures c.doubled-step.ensures c.low16.ensures

pub put_word-requires : goal.put_word-requires
put_word-requires c =
    let k = length-word c.args.st _ c.if-st-eq-WORD.true (numbers (goal.at.put_word-requires c).After-low16) in
    (omega (arith, k, c.requires), omega (arith, k, c.requires))

pub returns-then-st-eq-WORD : goal.returns-then-st-eq-WORD
returns-then-st-eq-WORD c =
    let p = c.put_word.ensures in
    word-laid c.args.st _ c.if-st-eq-WORD.true (numbers (goal.at.returns-then-st-eq-WORD c).After-low16) p.tags_after
    p.numbers_after p.value

pub put-requires : goal.put-requires
put-requires c =
    let k = length-lone c.args.st c.if-st-eq-WORD.false _ (sym c.lone.ensures ∙ c.in-Some.is) in
    omega (arith, k, c.requires)

pub returns-in-Some : goal.returns-in-Some
returns-in-Some c =
    lone-laid c.args.st c.if-st-eq-WORD.false _ (sym c.lone.ensures ∙ c.in-Some.is) c.put.ensures

pub returns-in-None : goal.returns-in-None
returns-in-None c =
    nothing-laid c.args.st c.if-st-eq-WORD.false (sym c.lone.ensures ∙ c.in-None.is)
