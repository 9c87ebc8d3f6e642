-- Calls one after the other, with the bytes x: where a call stands, and what it leaves. Assumes bytes below 256.
--     Reached                 the state for the next call, where the first so many bytes of x were taken
--     reached-none, -next     before the first call, and behind a call
--     next-text               the text from a call on: its own, and that of the calls behind it
--     last-text, no_text      the text where no size is left: of the call for the other bytes, or none
use Rattle.std.specs.Prelude.{Ok, Err}
use Prim.Native.Nat.{ℕ, ◌+◌, ◌-◌, ◌≤◌}
use mathlib.Core.Path.{◌≡◌, refl, sym, ap, ◌∙◌}
use mathlib.Core.List.{List, [], ◌∷◌, ◌++◌, append-nil}
use native.Mathlib.Omega.{arith}
use lib.ListN.{length, take, drop, length-append, length-take, length-drop}
use lib.Seq.{take_all, take-length, take-take, take-add, drop-drop}
use borrow.Author.Tests.{eq-eqb, ne_eqb}
use Rattle.utils.proofs.BytesLaws.{Bytes}
use Rattle.def_refusals.specs.Answers.{then_check, Or}
use Rattle.def_portions.specs.declared.Event.{Event}
use Rattle.def_portions.specs.Events.{course_of}
use Rattle.def_portions.specs.Calls.{Call, or_kept, past_fault, added, room_fault, call_of}
use Rattle.def_probe.specs.Requests.{call_told, calls_text}
use Rattle.states.specs.declared.Portions.{Portions}
use Rattle.states.specs.declared.Followed.{Followed}
use Rattle.states.specs.Steps.{start, after}
use Rattle.states.specs.Call.{followed_of}
use Rattle.followed.proofs.ValueLaws.{bytes_take}
use Rattle.followed.proofs.CallLaws.{call-answer, call-given, call-keeps}
use Rattle.ask_portions.specs.Told.{told_of}

-- a call with the bytes y behind the bytes b takes all of y or nothing
module _ (b y : List ℕ) where
  abbrev Takes : Call → Type 0
  Takes c = (c.taken ≡ b ++ take (length c.taken - length b) y) × (length c.taken - length b ≤ length y)

  takes_none : (b ≡ b ++ take (length b - length b) y) × (length b - length b ≤ length y)
  takes_none = let z : length b - length b ≡ 0 = omega arith in (rw z (sym (append-nil b)), omega arith)

  takes_all : (b ++ y ≡ b ++ take (length (b ++ y) - length b) y) × (length (b ++ y) - length b ≤ length y)
  takes_all =
      let z : length (b ++ y) - length b ≡ length y = omega (arith, length-append b y) in
      (rw (z, take-length y), omega (arith, z))

  takes-by : (f g : Or (Unit {0})) (es : List Event) (r : Or (Unit {0}))
      → Takes (or_kept b f (or_kept b g (record { events = es; refusal = r; taken = b ++ y })))
  takes-by (Err x) g es r = takes_none
  takes-by (Ok _) (Err x) es r = takes_none
  takes-by (Ok _) (Ok _) es r = takes_all

  pub takes : (room : ℕ) → Takes (call_of b y room)
  unfolding call_of
  takes room =
      let s = b ++ y in
      takes-by (course_of b).fault (then_check (past_fault s) (room_fault (added b s) room)) (added b s)
      (course_of s).fault

-- the state for the next call, where the first so many bytes of x were taken
pub record Reached (x : List ℕ) (st : Portions) (from : ℕ) : Type 0 where
  pub inside : from ≤ length x
  pub state : st ≡ after start (take from x)
  pub fine : past_fault (take from x) ≡ Ok tt

-- nothing yet
pub reached-none : (x : List ℕ) {st : Portions} → st ≡ start → Reached x st 0
unfolding after past_fault
reached-none x e = record { inside = omega arith; state = e; fine = refl }

-- a call with the next so many bytes of x, where the first `from` were taken
module _ {x : List ℕ} (bytes : Bytes x) (room : ℕ) {st : Portions} {from : ℕ} (w : Reached x st from) (size : ℕ) where
  abbrev portion : List ℕ
  portion = take size (drop from x)

  abbrev call : Call
  call = call_of (take from x) portion room

  bytes-so-far : Bytes (take from x ++ portion)
  bytes-so-far = rw (← take-add from size x) (bytes_take (from + size) x bytes)

  answer : followed_of st portion room
      ≡ record {
        state = after start call.taken;
        taken = length call.taken - length (take from x);
        events = length call.events;
        refusal = call.refusal;
      }
  answer = rw w.state (call-answer (take from x) portion room bytes-so-far w.fine)

  told : call_told call (length portion) ≡ told_of st portion room
  unfolding told_of
  told = rw (answer, w.state, call-given (take from x) portion room bytes-so-far w.fine)

  -- where n bytes of it were taken
  module _ (n : ℕ) (e : n ≡ (followed_of st portion room).taken) where
    counted : length call.taken - length (take from x) ≡ n
    counted = sym (e ∙ ap (λ (a : Followed). a.taken) answer)

    few : n ≤ length portion
    few = omega (arith, counted, (takes (take from x) portion room).1)

    taken_then : call.taken ≡ take (from + n) x
    taken_then =
        let k : n ≤ size = omega (arith, few, length-take size (drop from x)) in
        (takes (take from x) portion room).0
        ∙ (rw (counted, take-take n size (drop from x) k) (sym (take-add from n x)))

    pub next-text : (sizes : List ℕ)
        → calls_text room (take from x) (drop from x) (size ∷ sizes)
        ≡ told_of st portion room ++ calls_text room (take (from + n) x) (drop (from + n) x) sizes
    unfolding calls_text
    next-text sizes = rw (told, counted, taken_then, drop-drop n from x)

    pub reached-next : {s : Portions} → s ≡ (followed_of st portion room).state → Reached x s (from + n)
    reached-next f =
        record {
          inside = omega (arith, few, length-take size (drop from x), length-drop from x, w.inside);
          state = f ∙ ap (λ (a : Followed). a.state) answer ∙ ap (after start) taken_then;
          fine = rw taken_then at (call-keeps (take from x) portion room bytes-so-far w.fine);
        }

-- the bytes that are left
module _ {x : List ℕ} (bytes : Bytes x) (room : ℕ) {st : Portions} {from : ℕ} (w : Reached x st from) where
  abbrev left : List ℕ
  left = take (length x) (drop from x)

  left-all : left ≡ drop from x
  left-all = take_all (length x) (drop from x) (omega (arith, length-drop from x))

  pub no_text : length left ≡ 0 → calls_text room (take from x) (drop from x) [] ≡ []
  unfolding calls_text
  no_text e = rw (eq-eqb _ _ (rw left-all at e))

  pub last-text : (length left ≡ 0 → ⊥) → calls_text room (take from x) (drop from x) [] ≡ told_of st left room
  unfolding calls_text
  last-text n =
      rw (ne_eqb _ _ (rw left-all at n))
      (ap (λ (y : List ℕ). call_told (call_of (take from x) y room) (length y)) (sym left-all)
      ∙ told bytes room w (length x))
