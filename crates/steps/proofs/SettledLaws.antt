-- An item that may be complete: the state behind it and its events, by what is known of it. The one place that unfolds
-- `settled` and `settled_events`. Assumes nothing.
use Rattle.std.specs.Prelude.{Ok, Err}
use Prim.Native.Nat.{◌≤◌}
use mathlib.Core.Path.{◌≡◌}
use mathlib.Core.List.{[], ◌∷◌, ◌++◌, append-nil}
use native.Mathlib.Omega.{arith}
use lib.ListN.{length, length-append}
use lib.Dec.{eqb}
use borrow.Author.Tests.{eq-eqb, ne_eqb}
use Rattle.def_refusals.specs.Answers.{Or}
use Rattle.laws.proofs.Tests.{either}
use Rattle.def_refusals.specs.declared.Refusal.{Refusal}
use Rattle.def_portions.specs.declared.Event.TheVariants.{End}
use Rattle.states.specs.declared.Portions.{Portions}
use Rattle.states.specs.Steps.{over, item_fault, fault_of, passed, shown_by, end_in, shown_on, settled, settled_events}
use Rattle.steps.proofs.WeightLaws.{weight-most}

-- bytes are missing
module _ (st : Portions) (n : st.missing ≡ 0 → ⊥) where
  pub settled-open : settled st ≡ st
  unfolding settled
  settled-open = rw (ne_eqb _ _ n)

  pub events-open : settled_events st ≡ []
  unfolding settled_events
  events-open = rw (ne_eqb _ _ n)

-- none is
module _ (st : Portions) (e : st.missing ≡ 0) where
  fault-is : (x : Or (Unit {0})) → fault_of st ≡ x → item_fault st ≡ x
  unfolding fault_of
  fault-is x f = rw e at f

  pub settled-fine : fault_of st ≡ Ok tt → settled st ≡ passed st
  unfolding settled
  settled-fine f = rw (eq-eqb _ _ e, fault-is (Ok tt) f)

  pub events-fine : fault_of st ≡ Ok tt → settled_events st ≡ shown_by st ++ end_in (passed st)
  unfolding settled_events
  events-fine f = rw (eq-eqb _ _ e, fault-is (Ok tt) f)

  -- the end is shown where the packet is over
  pub events-over : fault_of st ≡ Ok tt → (passed st).item ≡ over → settled_events st ≡ shown_by st ++ (End ∷ [])
  unfolding settled_events
  events-over f o = rw (eq-eqb _ _ e, fault-is (Ok tt) f, o)

  pub events-more : fault_of st ≡ Ok tt → ((passed st).item ≡ over → ⊥) → settled_events st ≡ shown_by st
  unfolding settled_events
  events-more f n = rw (eq-eqb _ _ e, fault-is (Ok tt) f, ne_eqb _ _ n, append-nil)

  pub settled-unfit : (x : Refusal) → fault_of st ≡ Err x → settled st ≡ st
  unfolding settled
  settled-unfit x f = rw (eq-eqb _ _ e, fault-is (Err x) f)

  pub events-unfit : (x : Refusal) → fault_of st ≡ Err x → settled_events st ≡ []
  unfolding settled_events
  events-unfit x f = rw (eq-eqb _ _ e, fault-is (Err x) f)

-- a word's numbers and the end at most
end-most : (st : Portions) → length (end_in st) ≤ 1
end-most st = either (eqb st.item over) (λ t. rw t (omega arith)) (λ f. rw f (omega arith))

on-most : (x : Or (Unit {0})) (st : Portions) → length (shown_on x st) ≤ 16384
on-most (Ok _) st =
    omega (
      arith,
      length-append (shown_by st) (end_in (passed st)),
      weight-most st,
      end-most (passed st),
    )
on-most (Err x) st = omega arith

pub events-most : (st : Portions) → length (settled_events st) ≤ 16384
unfolding settled_events
events-most st =
    either (eqb st.missing 0) (λ t. rw t (on-most (item_fault st) st)) (λ f. rw f (omega arith))
