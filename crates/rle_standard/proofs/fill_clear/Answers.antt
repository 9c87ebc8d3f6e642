-- `rle_standard::fill_clear` meets its contract: a run of no length is found before anything is stored; then there is
-- room for all that are inside, or for as many as were counted; else it is refused. Assumes nothing.
use Prim.Native.Nat.{◌≤◌}
use mathlib.Core.Path.{◌≡◌, sym, ◌∙◌}
use native.Mathlib.Omega.{arith}
use lib.ListN.{length}
use Rattle.def_refusals.specs.declared.Refusal.TheVariants.{BadBlockLength}
use Rattle.def_wire.specs.Bytes.{words16}
use Rattle.def_wire.specs.Block.{lost_run, has}
use Rattle.def_standard.specs.Standard.{numbers_of}
use Rattle.laws.proofs.Answering.{listed, full, turned-away}
use Rattle.ones.proofs.NumbersLaws.{length-numbers}
use Rattle.rle_standard.proofs.ClearLaws.{whole, whole-clear, whole-lost}
use Rattle.rle_standard.proofs.fill_clear.Goals as goal
use Rattle.rle_standard.proofs.fill_clear.Goals.{After-is_lost, Else-has_lost_run, Else-out-t}

room : (c : Else-has_lost_run) → let a = c.args in
    length (numbers_of a.g (words16 a.bytes.now)) ≤ length a.out.now
room c =
    let a = c.args in
    omega (arith, c.if-inside_count-out.true, c.inside_count.ensures, length-numbers a.g (words16 a.bytes.now))

-- ---- the numbers are counted
-- whether a run of no length is among all the words
lost : (c : After-is_lost) → let a = c.args in
    has lost_run (words16 a.bytes.now) ≡ c.is_lost.result
lost c =
    c.tally-t.ensures.bytes_value ∙ sym c.is_lost.ensures

counted : (c : Else-out-t) → let a = c.args in
    length (numbers_of a.g (words16 a.bytes.now)) ≤ length a.out.now
counted c =
    omega (arith, c.tally-t.ensures.n_value, c.if-out-t.false)

-- ---- there is room for all that are inside
pub returns-then-has_lost_run : goal.returns-then-has_lost_run
returns-then-has_lost_run c = let a = c.args in
    let ws = words16 a.bytes.now in
    let ns = numbers_of a.g ws in
    turned-away (whole a.l ws ns) a.out.now (BadBlockLength 12 a.l)
    (whole-lost a.l ws ns (sym c.has_lost_run.ensures ∙ c.if-has_lost_run.true))

pub list_standard-requires : goal.list_standard-requires
list_standard-requires c = room (goal.at.list_standard-requires c).Else-has_lost_run

pub returns-then-inside_count-out : goal.returns-then-inside_count-out
returns-then-inside_count-out c = let a = c.args in
    let ws = words16 a.bytes.now in
    let ns = numbers_of a.g ws in
    listed (whole a.l ws ns) a.out.now ns _ _
    (whole-clear a.l ws ns (sym c.has_lost_run.ensures ∙ c.if-has_lost_run.false)) (room (goal.at.returns-then-inside_count-out c).Else-has_lost_run) c.list_standard.ensures

pub returns-then-is_lost : goal.returns-then-is_lost
returns-then-is_lost c = let a = c.args in
    let ws = words16 a.bytes.now in
    let ns = numbers_of a.g ws in
    turned-away (whole a.l ws ns) a.out.now (BadBlockLength 12 a.l)
    (whole-lost a.l ws ns (lost (goal.at.returns-then-is_lost c).After-is_lost ∙ c.if-is_lost.true))

pub returns-then-out-t : goal.returns-then-out-t
returns-then-out-t c = let a = c.args in
    let ws = words16 a.bytes.now in
    let ns = numbers_of a.g ws in
    full (whole a.l ws ns) a.out.now ns _ (whole-clear a.l ws ns (lost (goal.at.returns-then-out-t c).After-is_lost ∙ c.if-is_lost.false))
    c.tally-t.ensures.n_value c.if-out-t.true

pub list_standard-requires-2 : goal.list_standard-requires-2
list_standard-requires-2 c = counted (goal.at.list_standard-requires-2 c).Else-out-t

pub returns : goal.returns
returns c = let a = c.args in
    let ws = words16 a.bytes.now in
    let ns = numbers_of a.g ws in
    listed (whole a.l ws ns) a.out.now ns _ _ (whole-clear a.l ws ns (lost (goal.at.returns c).After-is_lost ∙ c.if-is_lost.false)) (counted (goal.at.returns c).Else-out-t)
    c.list_standard-2.ensures
