-- A call that 19 does not refuse has few bytes, or they show nothing: so how many events it has fits a usize. Assumes
-- nothing.
use Rattle.std.specs.Prelude.{Ok, Err}
use Prim.Native.Nat.{ℕ, ◌+◌, ◌≤◌, ◌<◌}
use mathlib.Core.Path.{◌≡◌, refl, sym, ap, ◌∙◌}
use mathlib.Core.Bool.{Bool, true, false}
use mathlib.Core.List.{List, [], append-nil}
use native.Mathlib.Omega.{arith}
use lib.ListN.{length, take, drop, take-append-drop, length-take}
use lib.Dec.{leb, eqb}
use borrow.Author.Tests.{leb-true, leb-false, eqb-true, eqb-false, le-leb, eq-eqb, ne_eqb}
use Rattle.def_refusals.specs.Answers.{Or}
use Rattle.laws.proofs.Tests.{either}
use Rattle.def_refusals.specs.declared.Refusal.{Refusal}
use Rattle.def_wire.specs.Bytes.{four}
use Rattle.def_wire.specs.Packet.{announced_of}
use Rattle.def_portions.specs.Events.{need, head_fault}
use Rattle.states.specs.declared.Portions.{Portions}
use Rattle.states.specs.Steps.{head, low32, held_over, holds, where_fine, good_length, fault_of, shows}
use Rattle.states.specs.Call.{announced_by, taken_in, past_by, past_of}
use Rattle.states.proofs.RunLaws.{shows-closed, item-shows}
use Rattle.steps.proofs.SettledLaws.{events-open, settled-unfit, events-unfit}
use Rattle.portions.proofs.MostLaws.{most-shown}

pub need-fine : (b : Bool) (y : Refusal) → need b y ≡ Ok tt → b ≡ true
need-fine true y e = refl
need-fine false y e = absurd (let z : ◌≡◌ {A = ℕ} 0 1 = cc in omega arith)

past-fine : (announced given : ℕ) → past_by announced given ≡ Ok tt → given ≤ announced
past-fine a g e = leb-true _ _ (need-fine (leb g a) _ e)

-- no length where the header is refused
length_none : (c : Or (Unit {0})) (n : ℕ) → 0 < n → where_fine c n ≡ 0 → (y : Refusal) × (c ≡ Err y)
length_none (Ok _) n h e = absurd (omega arith)
length_none (Err y) n h e = (y, refl)

length_most : (w : ℕ) → good_length (four w) ≤ 262144
length_most w = most (head_fault (four w))
  where
    most : (c : Or (Unit {0})) → where_fine c (announced_of (four w)) ≤ 262144
    most (Ok _) = omega arith
    most (Err y) = omega arith

module _ (st : Portions) (x : List ℕ) where
  -- the item at hand is not complete
  unfinished : length x < st.missing → shows st x ≡ []
  unfolding shows
  unfinished h =
      let n : (holds st x).missing ≡ 0 → ⊥ = λ z. omega (arith, z) in
      ap (shows st) (sym (append-nil x)) ∙ item-shows [] st x (omega arith) (omega arith)
      ∙ (rw (events-open (holds st x) n))

  -- the packet's first four bytes, as far as they come with x
  abbrev header : ℕ
  header = low32 (held_over head st.held (take st.missing x))

  -- they are refused
  refused : st.item ≡ head → st.missing ≤ length x → (y : Refusal) → head_fault (four header) ≡ Err y
      → shows st x ≡ []
  unfolding fault_of
  refused i h y f =
      either (eqb st.missing 0)
      (λ t. shows-closed st (eqb-true _ _ t) x)
      (λ n. let bs = take st.missing x in
      let o : 0 < st.missing = omega (arith, eqb-false st.missing 0 n) in
      let l : length bs ≡ st.missing = omega (arith, length-take st.missing x) in
      let z : (holds st bs).missing ≡ 0 = omega (arith, l) in
      let g : fault_of (holds st bs) ≡ Err y = rw (eq-eqb (holds st bs).missing 0 z, i) f in
      ap (shows st) (sym (take-append-drop st.missing x))
      ∙ item-shows (drop st.missing x) st bs o (omega (arith, l))
      ∙ (rw (events-unfit (holds st bs) z y g, settled-unfit (holds st bs) z y g)
      (shows-closed (holds st bs) z (drop st.missing x))))

  -- few bytes
  few : (a : ℕ) → a ≤ 4294967295 → past_by a (taken_in st + length x) ≡ Ok tt
      → length (shows st x) ≤ 18446744073709551615
  few a h p = omega (arith, h, past-fine a (taken_in st + length x) p, most-shown st x)

  nothing : shows st x ≡ [] → length (shows st x) ≤ 18446744073709551615
  nothing e = rw e (omega arith)

  -- of which length they speak
  at_head : st.item ≡ head → st.missing ≤ length x → announced_by st x ≡ good_length (four header)
  unfolding announced_by
  at_head i h = rw (eq-eqb _ _ i, le-leb _ _ h)

  behind-head : (st.item ≡ head → ⊥) → announced_by st x ≡ st.known.announced
  unfolding announced_by
  behind-head n = rw (ne_eqb _ _ n)

  head_few : st.item ≡ head → st.missing ≤ length x → past_of st x ≡ Ok tt
      → length (shows st x) ≤ 18446744073709551615
  unfolding past_of
  head_few i h p =
      either (eqb (announced_by st x) 0)
      (λ z. let e = sym (at_head i h) ∙ eqb-true _ _ z in
      let r = length_none (head_fault (four header)) (announced_of (four header)) (omega arith) e in
      nothing (refused i h r.0 r.1))
      (λ n. few (announced_by st x) (rw (at_head i h) (omega (arith, length_most header)))
      (rw (eq-eqb _ _ i, n) at p))

  -- a call that 19 does not refuse
  pub past-few : st.known.announced ≤ 4294967295 → past_of st x ≡ Ok tt
      → length (shows st x) ≤ 18446744073709551615
  unfolding past_of
  past-few a p =
      either (eqb st.item head)
      (λ i. either (leb st.missing (length x))
      (λ t. head_few (eqb-true _ _ i) (leb-true _ _ t) p)
      (λ f. nothing (unfinished (leb-false _ _ f))))
      (λ n. let e = behind-head (eqb-false _ _ n) in few (announced_by st x) (rw e a) (rw n at p))
