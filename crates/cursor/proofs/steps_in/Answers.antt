-- `cursor::steps_in` meets its contract: how many steps a word takes.
use Rattle.cursor.proofs.LegalLaws.{steps-none, steps-some}
use Rattle.def_standard.specs.Chunks.{covers_of}
use Prim.Native.Nat.{◌<◌}
use mathlib.Core.Path.{sym, ◌∙◌}
use native.Mathlib.Omega.{arith}
use Rattle.cursor.proofs.steps_in.Goals as goal

pub returns-then-covered-eq0 : goal.returns-then-covered-eq0
returns-then-covered-eq0 c = sym (steps-none c.args.w (sym c.covers-covered.ensures ∙ c.if-covered-eq0.true))

pub returns-else-covered-eq0 : goal.returns-else-covered-eq0
returns-else-covered-eq0 c = let w = c.args.w in
    let h : 0 < covers_of w = omega (arith, c.covers-covered.ensures, c.if-covered-eq0.false) in
    c.covers-covered.ensures ∙ sym (steps-some w h)
