-- `event_lists::put_word` meets its contract: the numbers, and a tag for each. Assumes nothing.
use Prim.Native.Nat.{ℕ, ◌-◌}
use mathlib.Core.Path.{◌≡◌, sym, ap, ◌∙◌}
use native.Mathlib.Omega.{arith}
use lib.ListN.{length, take}
use lib.Seq.{sets}
use Rattle.def_standard.specs.Chunks.{values_in}
use Rattle.ones.specs.Along.{along}
use Rattle.event_lists.specs.Laid.{number_tags}
use Rattle.event_lists.proofs.LaidLaws.{laid-tags, laid-numbers}
use Rattle.event_lists.proofs.put_word.Goals as goal

pub returns : goal.returns
returns c = let a = c.args in
    let xs = along a.step a.first (take a.room (values_in a.w)) in
    let e : c.store_word-past.result - a.n ≡ length xs = omega (arith, c.store_word-past.ensures.past) in
    record {
      tags_after = c.put_tags.ensures ∙ ap (λ (k : ℕ). sets a.tags.now a.n (number_tags k)) e
          ∙ sym (laid-tags xs a.n a.tags.now);
      numbers_after = c.store_word-past.ensures.stored ∙ sym (laid-numbers xs a.n a.numbers.now);
      value = c.store_word-past.ensures.past;
    }
