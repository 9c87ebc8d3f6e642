-- `cursor::advance_words` meets its contract: A stretch of the words in a range.
use Rattle.cursor.proofs.AdvanceLaws.{advancing-illegal, advancing-full, advancing-gone}
use Rattle.def_cursor.specs.Cursor.{legal}
use Rattle.def_wire.specs.Bytes.{words16}
use native.Mathlib.Omega.{arith}
use mathlib.Core.Bool.{true}
use mathlib.Core.Path.{◌≡◌, sym, ◌∙◌}
use Rattle.cursor.proofs.advance_words.Goals as goal
use Rattle.cursor.proofs.advance_words.Goals.{Else-not-stands}

-- the cursor is legal
stands : (c : Else-not-stands) → let a = c.args in
    legal (words16 a.bytes.now) a.c ≡ true
stands c =
    sym c.is_legal-stands.ensures ∙ c.if-not-stands.false

pub returns-then-not-stands : goal.returns-then-not-stands
returns-then-not-stands c = let a = c.args in
    advancing-illegal a.g (words16 a.bytes.now) a.c a.budget a.out.now
    (sym c.is_legal-stands.ensures ∙ c.if-not-stands.true)

pub returns-then-out-budget : goal.returns-then-out-budget
returns-then-out-budget c = let a = c.args in
    advancing-full a.g (words16 a.bytes.now) a.c a.budget a.out.now (stands (goal.at.returns-then-out-budget c).Else-not-stands)
    c.if-out-budget.true

pub go-requires : goal.go-requires
go-requires c = record {
  g_bound = c.requires;
  c_value = stands (goal.at.go-requires c).Else-not-stands;
  budget_in_bounds = omega (arith, c.if-out-budget.false);
}

pub returns : goal.returns
returns c = let a = c.args in
    advancing-gone a.g (words16 a.bytes.now) a.c a.budget a.out.now c.go.result _
    (stands (goal.at.returns c).Else-not-stands) c.if-out-budget.false c.go.ensures
