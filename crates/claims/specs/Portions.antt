-- A packet that comes in portions, by calls of `portions::follow` (RULES, "Packets in portions"). Nothing is asked of
-- a call but its contract; each lends four lists of its own, t, u, v and w, and leaves t', u', v' and w' in them.
--     Reached         a state that calls gave, from `steps::start` on, and the bytes that they took
--     CallShows       what the next call gives: what def_portions says of the bytes
--     Fed             calls from a state on, none refused as 11 or 19. Their indices: the state, the refusal told
--                     before them; the bytes that they gave, the events that they listed, joined, and the last refusal
--     Division        however the bytes are divided, these are the events and the refusal of all the bytes
--     WholeReading    of a packet that the standard reads, they are what the reading functions answer of each block
--     OneByte         room for 16,384 events is enough for one byte
use Rattle.std.specs.Prelude.{ℕ, ◌≤◌, ◌<◌, ◌≡◌, false, List, [], ◌∷◌, ◌++◌, take, Ok, Err}
use Rattle.def_refusals.specs.Answers.{Or}
use Rattle.def_refusals.specs.declared.Refusal.TheVariants.{NoRoom, PastEnd}
use Rattle.def_wire.specs.declared.Reading.TheVariants.{Standard}
use Rattle.def_wire.specs.Bytes.{byte_at}
use Rattle.def_wire.specs.Packet.{count_of, is_padded}
use Rattle.def_portions.specs.declared.Event.{Event}
use Rattle.def_portions.specs.Events.{course, course_of}
use Rattle.def_portions.specs.Calls.{call_of, past_fault}
use Rattle.def_portions.specs.Lists.{room_in}
use Rattle.states.specs.declared.Portions.{Portions}
use Rattle.states.specs.declared.Followed.{Followed}
use Rattle.states.specs.Steps.{start}
use Rattle.states.specs.Call.{Following}
use Rattle.event_lists.specs.Parts.{events_in}
use Rattle.followed.specs.Whole.{view_of, fit_of, whole_of}

-- each number is a byte's
abbrev pub Bytes : List ℕ → Type 0
Bytes s = (i : ℕ) → byte_at s i < 256

pub data Reached : Portions → List ℕ → Type 0 where
  begun : Reached start []
  behind : {st : Portions} {b x t u v w t' u' v' w' : List ℕ} {r : Followed} → Reached st b → Bytes (b ++ x)
      → Following st x t u v w r t' u' v' w' → Reached r.state (b ++ take r.taken x)

-- on a state that calls gave: the refusal, the bytes that are taken then, and the events that the lists hold
abbrev pub CallShows : Type 0
CallShows =
    (st : Portions) (b x t u v w t' u' v' w' : List ℕ) (r : Followed) → Reached st b → Bytes (b ++ x)
    → Following st x t u v w r t' u' v' w'
    → (r.refusal ≡ (call_of b x (room_in t u v w)).refusal)
    × (b ++ take r.taken x ≡ (call_of b x (room_in t u v w)).taken)
    × (events_in t' u' v' w' r.events ≡ (call_of b x (room_in t u v w)).events)

-- neither 11 nor 19
abbrev pub IsTaken : Or (Unit {0}) → Type 0
IsTaken x = ((n m : ℕ) → x ≡ Err (NoRoom n m) → ⊥) × ((n m : ℕ) → x ≡ Err (PastEnd n m) → ⊥)

pub data Fed : Portions → Or (Unit {0}) → List ℕ → List Event → Or (Unit {0}) → Type 0 where
  ended : {st : Portions} {told : Or (Unit {0})} → Fed st told [] [] told
  fed : {st : Portions} {told last : Or (Unit {0})} {x y t u v w t' u' v' w' : List ℕ} {r : Followed} {es : List Event}
      → Following st x t u v w r t' u' v' w' → IsTaken r.refusal → Fed r.state r.refusal y es last
      → Fed st told (x ++ y) (events_in t' u' v' w' r.events ++ es) last

-- bytes up to the announced length
abbrev pub Division : Type 0
Division =
    (s : List ℕ) (es : List Event) (x : Or (Unit {0})) → Fed start (Ok tt) s es x → Bytes s → past_fault s ≡ Ok tt
    → course es x ≡ course_of s

-- a packet that the standard accepts, without padding, each block of types 1 to 6 fit to be read: the header, for each
-- block its start and what the reading functions answer of it (followed's Whole), and the end
abbrev pub WholeReading : Type 0
WholeReading =
    (s : List ℕ) (n : ℕ) (es : List Event) (x : Or (Unit {0})) → Fed start (Ok tt) s es x → Bytes s
    → count_of Standard s ≡ Ok n → is_padded s ≡ false
    → ((k : ℕ) → k < n → fit_of (view_of s k) ≡ Ok tt)
    → (es ≡ whole_of s n) × (x ≡ Ok tt)

-- a run of 16,383 numbers and the end
abbrev pub OneByte : Type 0
OneByte =
    (st : Portions) (b : ℕ) (t u v w t' u' v' w' : List ℕ) (r : Followed)
    → Following st (b ∷ []) t u v w r t' u' v' w' → 16384 ≤ room_in t u v w → (n m : ℕ)
    → r.refusal ≡ Err (NoRoom n m) → ⊥
