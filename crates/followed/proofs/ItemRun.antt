-- One item and what is behind it. Assumes nothing.
--     then-then       events, events, and then a course
--     item-open       bytes of an item of which more are missing show nothing
--     item-passed     a complete item shows its events, and then what is behind it
--     item_refused    or the refusal that it shows, and nothing behind it
--     item-kept, item-behind     the state in the two cases
--     over-run        behind the packet nothing is shown
use Rattle.std.specs.Prelude.{Ok, Err}
use Prim.Native.Nat.{ℕ, ◌-◌, ◌≤◌, ◌<◌}
use mathlib.Core.Path.{◌≡◌, refl, sym, ap, ◌∙◌}
use mathlib.Core.Bool.{false}
use mathlib.Core.List.{List, [], ◌∷◌, ◌++◌, append_assoc, append-nil}
use native.Mathlib.Omega.{arith}
use lib.ListN.{length}
use lib.Dec.{eqb}
use borrow.Author.Tests.{ne_eqb}
use Rattle.def_refusals.specs.declared.Refusal.{Refusal}
use Rattle.def_portions.specs.declared.Event.{Event}
use Rattle.def_portions.specs.declared.Event.TheVariants.{End}
use Rattle.def_portions.specs.Events.{Course, course, quiet, then}
use Rattle.states.specs.declared.Known.{Known}
use Rattle.states.specs.declared.Portions.{Portions}
use Rattle.states.specs.Steps.{state, over, held_over, holds, item_fault, fault_of, passed, shown_by, end_in, after, shows}
use Rattle.states.specs.Steps.{settled, settled_events}
use Rattle.states.proofs.RunLaws.{after-closed, shows-closed, item-after, item-shows}
use Rattle.followed.specs.Run.{run_of, opening}

pub then-then : (a b : List Event) (c : Course) → then a (then b c) ≡ then (a ++ b) c
then-then a b c = ap (λ (es : List Event). course es c.fault) (sym (append_assoc a b c.events))

pub not-zero : (n : ℕ) → 0 < n → eqb n 0 ≡ false
not-zero n h = ne_eqb n 0 (λ (e : n ≡ 0). absurd (omega arith))

module _ (item n rest behind : ℕ) (k : Known) where
  -- the item with all its bytes
  abbrev pub whole : List ℕ → Portions
  whole bs = state item 0 (held_over item 0 bs) rest behind k

  abbrev pub fresh : Portions
  fresh = state item n 0 rest behind k

  item-run : (bs x : List ℕ) → 0 < n → length bs ≤ n
      → run_of fresh (bs ++ x) ≡ then (settled_events (holds fresh bs)) (run_of (settled (holds fresh bs)) x)
  unfolding run_of
  item-run bs x h l = rw (item-shows x fresh bs h l, item-after x fresh bs h l)

  pub item-open : (bs : List ℕ) → length bs < n → run_of (state item n 0 rest behind k) bs ≡ quiet
  unfolding run_of settled settled_events fault_of after shows
  item-open bs h =
      let f : eqb (n - length bs) 0 ≡ false = not-zero (n - length bs) (omega arith) in
      ap (run_of fresh) (sym (append-nil bs)) ∙ item-run bs [] (omega arith) (omega arith) ∙ (rw (f, f))

  -- the state where bytes are missing, and behind a complete item
  pub item-kept : (bs : List ℕ) → length bs < n → after (state item n 0 rest behind k) bs ≡ holds fresh bs
  unfolding settled after
  item-kept bs h =
      let f : eqb (n - length bs) 0 ≡ false = not-zero (n - length bs) (omega arith) in
      ap (after fresh) (sym (append-nil bs)) ∙ item-after [] fresh bs (omega arith) (omega arith) ∙ (rw f)

  module _ (bs x : List ℕ) (h : 0 < n) (e : length bs ≡ n) where
    pub item-behind : item_fault (whole bs) ≡ Ok tt
        → after (state item n 0 rest behind k) (bs ++ x) ≡ after (passed (whole bs)) x
    unfolding settled
    item-behind f =
        let z : n - length bs ≡ 0 = omega arith in
        item-after x fresh bs h (omega arith) ∙ (rw (z, f))

    pub item-passed : item_fault (whole bs) ≡ Ok tt
        → run_of (state item n 0 rest behind k) (bs ++ x) ≡ then (shown_by (whole bs)) (opening (passed (whole bs)) x)
    unfolding settled settled_events opening
    item-passed f =
        let z : n - length bs ≡ 0 = omega arith in
        item-run bs x h (omega arith)
        ∙ (rw (z, f) (sym (then-then (shown_by (whole bs)) (end_in (passed (whole bs))) (run_of (passed (whole bs)) x))))

    pub item_refused : (y : Refusal) → item_fault (whole bs) ≡ Err y
        → run_of (state item n 0 rest behind k) (bs ++ x) ≡ course [] (Err y)
    unfolding settled settled_events run_of fault_of
    item_refused y f =
        let z : n - length bs ≡ 0 = omega arith in
        item-run bs x h (omega arith)
        ∙ (rw (z, f) (rw (shows-closed (whole bs) refl x, after-closed (whole bs) refl x, f)))

pub over-run : (k : Known) (bs : List ℕ) → opening (state over 0 0 0 0 k) bs ≡ course (End ∷ []) (Ok tt)
unfolding opening run_of fault_of
over-run k bs = rw (shows-closed (state over 0 0 0 0 k) refl bs, after-closed (state over 0 0 0 0 k) refl bs)
