-- `event_lists::event_of` meets its contract: by the kind. Assumes nothing.
use mathlib.Core.Path.{ap, ◌∙◌}
use Rattle.def_portions.specs.declared.Event.TheVariants.{Summed}
use Rattle.event_lists.proofs.PartsLaws.{event-header, event-start, event-ranged, event-number}
use Rattle.event_lists.proofs.PartsLaws.{event-pair, event-entry, event-time, event-summary, event-end}
use Rattle.event_lists.proofs.event_of.Goals as goal

pub returns-then-kind-eq1 : goal.returns-then-kind-eq1
returns-then-kind-eq1 c = event-header _ _ _ _ _ _ c.if-kind-eq1.true

pub returns-then-kind-eq2 : goal.returns-then-kind-eq2
returns-then-kind-eq2 c = event-start _ _ _ _ _ _ c.if-kind-eq2.true

pub returns-then-kind-eq3 : goal.returns-then-kind-eq3
returns-then-kind-eq3 c = event-ranged _ _ _ _ _ _ c.if-kind-eq3.true

pub returns-then-kind-eq4 : goal.returns-then-kind-eq4
returns-then-kind-eq4 c = event-number _ _ _ _ _ _ c.if-kind-eq4.true

pub returns-then-kind-eq5 : goal.returns-then-kind-eq5
returns-then-kind-eq5 c = event-pair _ _ _ _ _ _ c.if-kind-eq5.true

pub returns-then-kind-eq6 : goal.returns-then-kind-eq6
returns-then-kind-eq6 c = event-entry _ _ _ _ _ _ c.if-kind-eq6.true

pub returns-then-kind-eq7 : goal.returns-then-kind-eq7
returns-then-kind-eq7 c = event-time _ _ _ _ _ _ c.if-kind-eq7.true

pub returns-then-kind-eq9 : goal.returns-then-kind-eq9
returns-then-kind-eq9 c = ap Summed c.summary_in.ensures ∙ event-summary _ _ _ _ _ _ c.if-kind-eq9.true

-- it was none of these
pub returns : goal.returns
returns c = event-end _ _ _ _ _ _ c.if-kind-eq1.false c.if-kind-eq2.false c.if-kind-eq3.false c.if-kind-eq4.false c.if-kind-eq5.false
    c.if-kind-eq6.false c.if-kind-eq7.false c.if-kind-eq9.false
