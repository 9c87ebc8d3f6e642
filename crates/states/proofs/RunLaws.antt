-- Some bytes at once. Assumes nothing.
--     after-append, shows-append     bytes behind others
--     after-closed, shows-closed     a state that takes none
--     item-after, item-shows         bytes of the item at hand, as many as are missing at most
use Prim.Native.Nat.{ℕ, suc, ◌-◌, ◌≤◌, ◌<◌}
use mathlib.Core.Path.{◌≡◌, refl, sym, ap, ◌∙◌}
use mathlib.Core.Bool.{false}
use mathlib.Core.List.{List, [], ◌∷◌, ◌++◌, append_assoc}
use native.Mathlib.Omega.{arith}
use lib.ListN.{length}
use lib.Dec.{leb, eqb}
use borrow.Author.Tests.{leb-true, leb-false, ne_eqb}
use Rattle.laws.proofs.Tests.{either}
use Rattle.states.specs.declared.Portions.{Portions}
use Rattle.states.specs.Steps.{after, shows, next, events_at, settled, settled_events, hold, holds, held_over}

pub after-append : (st : Portions) (x y : List ℕ) → after st (x ++ y) ≡ after (after st x) y
unfolding after
after-append st [] y = refl
after-append st (b ∷ x) y = after-append (next st b) x y

pub shows-append : (st : Portions) (x y : List ℕ) → shows st (x ++ y) ≡ shows st x ++ shows (after st x) y
unfolding after shows
shows-append st [] y = refl
shows-append st (b ∷ x) y =
    ap (λ l. events_at st b ++ l) (shows-append (next st b) x y) ∙ sym (append_assoc (events_at st b) _ _)

-- a state of which no byte is missing takes none
pub after-closed : (st : Portions) → st.missing ≡ 0 → (bs : List ℕ) → after st bs ≡ st
unfolding after next
after-closed st e [] = refl
after-closed st e (b ∷ bs) = simp (e) (after-closed st e bs)

pub shows-closed : (st : Portions) → st.missing ≡ 0 → (bs : List ℕ) → shows st bs ≡ []
unfolding shows next events_at
shows-closed st e [] = refl
shows-closed st e (b ∷ bs) = simp (e) (shows-closed st e bs)

-- while a byte is missing, an item is as it was
not-zero : (n : ℕ) → 0 < n → eqb n 0 ≡ false
not-zero n h = ne_eqb n 0 (λ e. absurd (omega arith))

unsettled : (st : Portions) → 0 < st.missing → settled st ≡ st
unfolding settled
unsettled st h = rw (not-zero st.missing h) refl

unsettled-events : (st : Portions) → 0 < st.missing → settled_events st ≡ []
unfolding settled_events
unsettled-events st h = rw (not-zero st.missing h) refl

-- a byte of an item of which bytes are missing
next-open : (st : Portions) (b : ℕ) → 0 < st.missing → next st b ≡ settled (hold st b)
unfolding next
next-open st b h = rw (not-zero st.missing h) refl

events-open : (st : Portions) (b : ℕ) → 0 < st.missing → events_at st b ≡ settled_events (hold st b)
unfolding events_at
events-open st b h = rw (not-zero st.missing h) refl

-- nothing more is held
holds-none : (st : Portions) → holds st [] ≡ st
unfolding held_over
holds-none st = let e : st.missing - 0 ≡ st.missing = omega arith in rw e refl

-- a byte, and then others
holds-cons : (st : Portions) (b : ℕ) (bs : List ℕ) → holds (hold st b) bs ≡ holds st (b ∷ bs)
unfolding held_over
holds-cons st b bs = let e : st.missing - 1 - length bs ≡ st.missing - suc (length bs) = omega arith in rw e refl

module _ (rest : List ℕ) where
  -- the byte that completes the item, or one before it
  pub item-after : (st : Portions) (bs : List ℕ) → 0 < st.missing → length bs ≤ st.missing
      → after st (bs ++ rest) ≡ after (settled (holds st bs)) rest
  unfolding after
  item-after st [] h le = rw (holds-none st, unsettled st h) refl
  item-after st (b ∷ bs) h le =
      either (leb (length bs) 0)
      (λ t. last bs (leb-true _ _ t))
      (λ f. let n : 0 < length bs = leb-false _ _ f in
      let more : 0 < (hold st b).missing = omega arith in
      let least : length bs ≤ (hold st b).missing = omega arith in
      rw (next-open st b h, unsettled (hold st b) more, ← holds-cons st b bs) (item-after (hold st b) bs more least))
    where
      last : (cs : List ℕ) → length cs ≤ 0 → after (next st b) (cs ++ rest) ≡ after (settled (holds st (b ∷ cs))) rest
      last [] e = rw (next-open st b h, ← holds-cons st b [], holds-none (hold st b)) refl
      last (c ∷ cs) e = absurd (let z : suc (length cs) ≤ 0 = e in omega arith)

  pub item-shows : (st : Portions) (bs : List ℕ) → 0 < st.missing → length bs ≤ st.missing
      → shows st (bs ++ rest) ≡ settled_events (holds st bs) ++ shows (settled (holds st bs)) rest
  unfolding shows
  item-shows st [] h le = rw (holds-none st, unsettled st h, unsettled-events st h) refl
  item-shows st (b ∷ bs) h le =
      either (leb (length bs) 0)
      (λ t. last bs (leb-true _ _ t))
      (λ f. let n : 0 < length bs = leb-false _ _ f in
      let more : 0 < (hold st b).missing = omega arith in
      let least : length bs ≤ (hold st b).missing = omega arith in
      rw (events-open st b h, next-open st b h, unsettled-events (hold st b) more, unsettled (hold st b) more)
      (rw (← holds-cons st b bs) (item-shows (hold st b) bs more least)))
    where
      last : (cs : List ℕ) → length cs ≤ 0
          → events_at st b ++ shows (next st b) (cs ++ rest)
          ≡ settled_events (holds st (b ∷ cs)) ++ shows (settled (holds st (b ∷ cs))) rest
      last [] e = rw (events-open st b h, next-open st b h, ← holds-cons st b [], holds-none (hold st b)) refl
      last (c ∷ cs) e = absurd (let z : suc (length cs) ≤ 0 = e in omega arith)
