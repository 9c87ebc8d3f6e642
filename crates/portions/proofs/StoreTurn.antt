-- Some bytes, turn by turn: the loops of `count` and `store`, on plain lists and numbers. Assumes nothing.
--     Underway     what was stored so far and what is still to come make up the whole
--     Counted      the same only counted
use Prim.Native.Nat.{ℕ, ◌+◌, ◌≤◌}
use mathlib.Core.Path.{◌≡◌, refl, sym, ap, ◌∙◌}
use mathlib.Core.List.{List, [], ◌++◌, append_assoc, append-nil}
use native.Mathlib.Omega.{arith}
use lib.ListN.{length, drop, length-append, drop_of_length-le}
use Rattle.def_portions.specs.declared.Event.{Event}
use Rattle.def_portions.specs.Lists.{room_in}
use Rattle.event_lists.specs.Laid.{Laid}
use Rattle.event_lists.proofs.LaidLaws.{laid_none, laid_as, and_then, same-room}
use Rattle.states.specs.declared.Portions.{Portions}
use Rattle.states.specs.Steps.{after, shows}
use Rattle.states.proofs.RunLaws.{after-closed, shows-closed}
use Rattle.portions.specs.declared.Turn.{Turn}
use Rattle.portions.specs.Turn.{TurnCounted, TurnStored}
use Rattle.portions.proofs.TurnLaws.{turned-length}

-- the bytes x from the state st on, up to an index: the state s there, and in four lists the events up to there
pub record Underway (st : Portions) (x t₀ u₀ v₀ z₀ t u v z : List ℕ) (s : Portions) (at n : ℕ) : Type 0 where
  pub shown : List Event
  pub inside : at ≤ length x
  pub state : after s (drop at x) ≡ after st x
  pub rest : shown ++ shows s (drop at x) ≡ shows st x
  pub stored : Laid shown 0 t₀ u₀ v₀ z₀ t u v z n

module _ {st : Portions} {x t₀ u₀ v₀ z₀ : List ℕ} where
  pub begun : Underway st x t₀ u₀ v₀ z₀ t₀ u₀ v₀ z₀ st 0 0
  begun = record { shown = []; inside = omega arith; state = refl; rest = refl; stored = laid_none }

  module _ {t u v z : List ℕ} {s : Portions} {at n : ℕ} (w : Underway st x t₀ u₀ v₀ z₀ t u v z s at n) where
    -- there is room for the events to come
    pub room : length (shows st x) ≤ room_in t₀ u₀ v₀ z₀ → n + length (shows s (drop at x)) ≤ room_in t u v z
    room h =
        let l = w.stored in
        let a = ap length w.rest in
        let b = length-append w.shown (shows s (drop at x)) in
        rw (same-room l) (omega (arith, a, b, l.past, h))

    -- one turn
    pub onward : {t1 u1 v1 z1 : List ℕ} {r : Turn} → TurnStored s x at n t u v z r t1 u1 v1 z1
        → Underway st x t₀ u₀ v₀ z₀ t1 u1 v1 z1 r.state (at + r.taken) r.events
    onward k =
        record {
          shown = w.shown ++ k.shown;
          inside = k.turn.fits;
          state = sym k.turn.behind ∙ w.state;
          rest = rw append_assoc (ap (λ l. w.shown ++ l) (sym k.turn.first) ∙ w.rest);
          stored = and_then w.stored k.stored;
        }

    -- no byte is left, or the state takes none
    pub ended : length x ≤ at → (s ≡ after st x) × Laid (shows st x) 0 t₀ u₀ v₀ z₀ t u v z n
    unfolding after shows
    ended h =
        let e = drop_of_length-le x {i = at} h in
        (rw e at w.state, laid_as (sym (append-nil w.shown) ∙ (rw e at w.rest)) w.stored)

    pub closed : s.missing ≡ 0 → (s ≡ after st x) × Laid (shows st x) 0 t₀ u₀ v₀ z₀ t u v z n
    closed m =
        let e = shows-closed s m (drop at x) in (
          sym (after-closed s m (drop at x)) ∙ w.state,
          laid_as (sym (append-nil w.shown) ∙ (rw e at w.rest)) w.stored,
        )

-- the same only counted
pub record Counted (st : Portions) (x : List ℕ) (s : Portions) (at n : ℕ) : Type 0 where
  pub inside : at ≤ length x
  pub rest : n + length (shows s (drop at x)) ≡ length (shows st x)

module _ {st : Portions} {x : List ℕ} where
  pub count-begun : Counted st x st 0 0
  count-begun = record { inside = omega arith; rest = omega arith }

  module _ {s : Portions} {at n : ℕ} (w : Counted st x s at n) where
    -- one turn
    module _ {r : Turn} (k : TurnCounted s x at r) where
      pub count-onward : Counted st x r.state (at + r.taken) (n + r.events)
      count-onward =
          record { inside = k.turn.fits; rest = omega (arith, turned-length k.turn, k.events, w.rest) }

      pub count_room : n + r.events ≤ length (shows st x)
      count_room = omega (arith, count-onward.rest)

    -- no byte is left, or the state takes none
    pub count-ended : length x ≤ at → n ≡ length (shows st x)
    unfolding shows
    count-ended h = let k = rw (drop_of_length-le x {i = at} h) at w.rest in omega (arith, k)

    pub count-closed : s.missing ≡ 0 → n ≡ length (shows st x)
    count-closed z = let k = rw (shows-closed s z (drop at x)) at w.rest in omega (arith, k)
