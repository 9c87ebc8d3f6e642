-- `block::check_words` meets its contract: 7 by the length, then by the words. Assumes nothing.
use Prim.Native.Nat.{◌≤◌}
use mathlib.Core.Path.{ap, ◌∙◌}
use native.Mathlib.Omega.{arith}
use lib.ListN.{length, drop, length-drop}
use lib.Seq.{take_all}
use Rattle.def_wire.specs.Bytes.{words16}
use Rattle.def_wire.specs.Block.{lost_run, has}
use Rattle.block.proofs.BlockLaws.{words-short, words-rule}
use Rattle.block.proofs.check_words.Goals as goal

pub returns-then-v-lt12 : goal.returns-then-v-lt12
returns-then-v-lt12 c = let v = c.args.v.now in
    c.rule.ensures ∙ words-short v c.if-v-lt12.true

pub returns : goal.returns
returns c = let v = c.args.v.now in
    let l : length (drop 12 v) ≤ length v = omega (arith, length-drop 12 v) in
    let w = c.has_lost_run-lost.ensures
    ∙ ap (λ b. has lost_run (words16 b)) (c.part.ensures.result_value ∙ take_all (length v) (drop 12 v) l) in
    c.rule-2.ensures ∙ words-rule v c.has_lost_run-lost.result c.if-v-lt12.false w
