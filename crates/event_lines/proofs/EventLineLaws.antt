-- The lines of the events of four lists, as a loop goes through the first n items. Assumes nothing.
--     events_from     the events from index i on
--     threes-at      three numbers of the fourth list belong to an index
use Prim.Native.Nat.{ℕ, ◌+◌, ◌*◌, ◌/◌, ◌≤◌, ◌<◌, min}
use mathlib.Core.Path.{◌≡◌, refl, ap, ◌∙◌}
use mathlib.Core.List.{List, [], ◌∷◌, ◌++◌}
use native.Mathlib.Omega.{arith}
use lib.ListN.{length, take, drop, get_or, length-take, length-drop}
use lib.Seq.{get_or-take}
use lib.Dec.{leb}
use borrow.Author.Tests.{leb-true, leb-false}
use Rattle.laws.proofs.Tests.{either}
use Rattle.print.proofs.ListLaws.{drop-next, drop_all}
use Rattle.def_portions.specs.declared.Event.{Event}
use Rattle.def_portions.specs.Lists.{room_in}
use Rattle.def_dump.specs.EventLines.{event_line, event_lines}
use Rattle.event_lists.specs.Parts.{events_of}
use Rattle.event_lines.specs.At.{event_at}

abbrev pub events_from : ℕ → List ℕ → List ℕ → List ℕ → List ℕ → ℕ → List Event
events_from n t u v w i =
    events_of (drop i (take n t)) (drop i (take n u)) (drop i (take n v)) (drop (3 * i) (take (3 * n) w))

-- how many events are gone through
abbrev pub stop_at : ℕ → List ℕ → List ℕ → List ℕ → List ℕ → ℕ
stop_at n t u v w = min n (room_in t u v w)

below : (n a i : ℕ) → i < min n a → (i < n) × (i < a)
below n a i h = (omega arith, omega arith)

pub room_at : (n stop i : ℕ) (t u v w : List ℕ) → stop ≡ stop_at n t u v w → i < stop → i < room_in t u v w
room_at n stop i t u v w e h = (below n (room_in t u v w) i (rw e at h)).1

-- of one list, the items from i on
module _ (n : ℕ) (l : List ℕ) (i : ℕ) where
  taken_at : i < min n (length l) → drop i (take n l) ≡ get_or l i 0 ∷ drop (i + 1) (take n l)
  taken_at h =
      let k : i < length (take n l) = rw (length-take n l) h in
      drop-next (take n l) i k ∙ (rw (get_or-take n l i 0 (omega arith)))

  taken-end : min n (length l) ≤ i → drop i (take n l) ≡ []
  taken-end h = drop_all (take n l) i (rw (length-take n l) h)

-- where one list has ended, or the fourth has less than three numbers
events-none : (l m w : List ℕ) → (events_of l [] m w ≡ []) × (events_of l m [] w ≡ [])
unfolding events_of
events-none [] m w = (refl, refl)
events-none (x ∷ l) [] w = (refl, refl)
events-none (x ∷ l) (y ∷ m) w = (refl, refl)

events-few : (l m k w : List ℕ) → length w < 3 → events_of l m k w ≡ []
unfolding events_of
events-few [] m k w h = refl
events-few (x ∷ l) [] k w h = refl
events-few (x ∷ l) (y ∷ m) [] w h = refl
events-few (x ∷ l) (y ∷ m) (z ∷ k) [] h = refl
events-few (x ∷ l) (y ∷ m) (z ∷ k) (a ∷ []) h = refl
events-few (x ∷ l) (y ∷ m) (z ∷ k) (a ∷ b ∷ []) h = refl
events-few (x ∷ l) (y ∷ m) (z ∷ k) (a ∷ b ∷ c ∷ w) h = absurd (omega arith)

module _ (n : ℕ) (w : List ℕ) (i : ℕ) where
  threes-at : i < n → i < length w / 3
      → drop (3 * i) (take (3 * n) w)
      ≡ get_or w (3 * i) 0 ∷ get_or w (3 * i + 1) 0 ∷ get_or w (3 * i + 2) 0 ∷ drop (3 * (i + 1)) (take (3 * n) w)
  threes-at h k =
      let e : 3 * i + 1 + 1 ≡ 3 * i + 2 = omega arith in
      let f : 3 * i + 2 + 1 ≡ 3 * (i + 1) = omega arith in
      let a = taken_at (3 * n) w (3 * i) (omega arith) in
      let b = taken_at (3 * n) w (3 * i + 1) (omega arith) in
      let d = taken_at (3 * n) w (3 * i + 2) (omega arith) in
      a ∙ (rw (b, e, d, f))

  threes-few : min n (length w / 3) ≤ i → length (drop (3 * i) (take (3 * n) w)) < 3
  threes-few h = rw (length-drop (3 * i) (take (3 * n) w), length-take (3 * n) w) (omega arith)

few-left : (n a b c d i : ℕ) → i < n → i < a → i < b → i < c → min n (min (min (min a b) c) d) ≤ i → min n d ≤ i
few-left n a b c d i h p q r e = omega arith

module _ (n : ℕ) (t u v w : List ℕ) (i : ℕ) where
  events-next : i < stop_at n t u v w → events_from n t u v w i ≡ event_at t u v w i ∷ events_from n t u v w (i + 1)
  unfolding events_of
  events-next h =
      rw (
        taken_at n t i (omega arith),
        taken_at n u i (omega arith),
        taken_at n v i (omega arith),
        threes-at n w i (omega arith) (omega arith),
      )

  pub lines_next : i < stop_at n t u v w
      → event_lines (events_from n t u v w i) ≡ event_line (event_at t u v w i) ++ event_lines (events_from n t u v w (i + 1))
  unfolding event_lines
  lines_next h = ap event_lines (events-next h)

  events-end : stop_at n t u v w ≤ i → events_from n t u v w i ≡ []
  unfolding events_of
  events-end h =
      either (leb (min n (length t)) i) (λ a. rw (taken-end n t i (leb-true _ _ a)))
      (λ a. either (leb (min n (length u)) i) (λ b. rw (taken-end n u i (leb-true _ _ b), (events-none _ _ _).0))
      (λ b. either (leb (min n (length v)) i) (λ d. rw (taken-end n v i (leb-true _ _ d), (events-none _ _ _).1))
      (λ d.
      let p = below n (length t) i (leb-false _ _ a) in
      let q = below n (length u) i (leb-false _ _ b) in
      let r = below n (length v) i (leb-false _ _ d) in
      events-few (drop i (take n t)) (drop i (take n u)) (drop i (take n v)) (drop (3 * i) (take (3 * n) w))
      (threes-few n w i
      (few-left n (length t) (length u) (length v) (length w / 3) i p.0 p.1 q.1 r.1 h)))))

  pub lines_end : stop_at n t u v w ≤ i → event_lines (events_from n t u v w i) ≡ []
  unfolding event_lines
  lines_end h = ap event_lines (events-end h)
