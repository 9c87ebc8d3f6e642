-- `event_lists::put` meets its contract: each kind of event has its parts stored. Assumes nothing.
use Prim.Native.Nat.{◌+◌, ◌*◌}
use mathlib.Core.Path.{ap, ap₂, ◌∙◌}
use mathlib.Core.List.{[], ◌∷◌}
use lib.ListN.{set}
use lib.Seq.{sets}
use Rattle.def_wire.specs.declared.Sums.{Sums}
use Rattle.def_portions.specs.Lists.{summary_tag, sums_row, tag_of, number_part, value_part, put_sums}
use Rattle.event_lists.specs.Laid.{Laid}
use Rattle.event_lists.proofs.LaidLaws.{laid_one}
use Rattle.event_lists.proofs.put.Goals as goal
use Rattle.event_lists.proofs.put.Goals.{Joined-e, in-Header, in-Start, in-Ranged, in-Number, in-Pair, in-Entry, in-Time, in-Summed, in-End}

-- by the arm that was taken: the event is of its kind, and its parts are what was stored
stored : (c : Joined-e) → let a = c.args in let m = c.match-e in
    Laid (a.e ∷ []) a.n a.tags.now a.numbers.now a.values.now a.sums.now m.tags m.numbers
    m.values m.sums (a.n + 1)
unfolding tag_of number_part value_part put_sums
stored c =
    let a = c.args in
    elim c.match-e.branch [
      | in-Header w ↦ laid_one w.in-Header.is w.tags-is w.numbers-is w.values-is w.sums-is
      | in-Start w ↦ laid_one w.in-Start.is (w.tags-is ∙ ap (set a.tags.now a.n) w.start_tag.ensures) w.numbers-is
          w.values-is w.sums-is
      | in-Ranged w ↦ laid_one w.in-Ranged.is (w.tags-is ∙ ap (set a.tags.now a.n) w.start_tag-in-Ranged.ensures)
          w.numbers-is (w.values-is ∙ ap (set a.values.now a.n) w.span_value.ensures) w.sums-is
      | in-Number w ↦ laid_one w.in-Number.is w.tags-is w.numbers-is w.values-is w.sums-is
      | in-Pair w ↦ laid_one w.in-Pair.is w.tags-is w.numbers-is w.values-is w.sums-is
      | in-Entry w ↦ laid_one w.in-Entry.is w.tags-is w.numbers-is
          (w.values-is ∙ ap (set a.values.now a.n) w.join32.ensures) w.sums-is
      | in-Time w ↦ laid_one w.in-Time.is w.tags-is w.numbers-is w.values-is w.sums-is
      | in-Summed w ↦ laid_one w.in-Summed.is
          (w.tags-is
          ∙ ap (set a.tags.now a.n) (w.summary_tag.ensures ∙ ap₂ summary_tag w.flags_of.ensures w.sums_of-m.ensures))
          w.numbers-is (w.values-is ∙ ap (set a.values.now a.n) w.span_value-in-Summed.ensures)
          (w.sums-is ∙ w.put_sums.ensures ∙ ap (λ (m : Sums). sets a.sums.now (3 * a.n) (sums_row m)) w.sums_of-m.ensures)
      | in-End w ↦ laid_one w.in-End.is w.tags-is w.numbers-is w.values-is w.sums-is
    ]

pub returns : goal.returns
returns c = stored (goal.at.returns c).Joined-e
