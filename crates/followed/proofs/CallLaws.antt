-- A call on a state that bytes led to gives what def_portions says of a call behind these bytes. Assumes bytes below
-- 256, and that the bytes before were within the announced length.
--     call-answer     its answer: state, count and refusal
--     call-given      the events that it lists
--     call-keeps      the bytes taken then are within the announced length again
use Rattle.std.specs.Prelude.{Ok, Err}
use Prim.Native.Nat.{ℕ, ◌-◌}
use mathlib.Core.Path.{◌≡◌, refl, sym, ap, ap₂, ◌∙◌}
use mathlib.Core.List.{List, ◌++◌}
use native.Mathlib.Omega.{arith}
use lib.ListN.{length, drop, length-append}
use lib.Seq.{drop-append_seam}
use Rattle.utils.proofs.BytesLaws.{Bytes}
use Rattle.def_refusals.specs.Answers.{then_check, Or}
use Rattle.def_portions.specs.Events.{Course, course_of}
use Rattle.def_portions.specs.Calls.{Call, kept, or_kept, past_fault, added, room_fault, call_of}
use Rattle.states.specs.declared.Followed.{Followed}
use Rattle.states.specs.Steps.{start, fault_of, after, shows}
use Rattle.states.specs.Call.{past_of, call_fault, followed_by, followed_of, given_by, given_of}
use Rattle.states.proofs.RunLaws.{after-append, shows-append}
use Rattle.followed.proofs.ValueLaws.{bytes-front}
use Rattle.followed.proofs.CheckLaws.{both-fine}
use Rattle.followed.proofs.CourseRun.{runs}
use Rattle.followed.proofs.PastLaws.{past-reached}

module _ (b x : List ℕ) (room : ℕ) (y : Bytes (b ++ x)) (p : past_fault b ≡ Ok tt) where
  -- the refusal that stays
  fault-before : (course_of b).fault ≡ fault_of (after start b)
  fault-before = ap (λ (c : Course). c.fault) (runs b (bytes-front b x y) p)

  -- where the call is within the announced length: its events, and the refusal behind it
  module _ (q : past_fault (b ++ x) ≡ Ok tt) where
    added-shows : added b (b ++ x) ≡ shows (after start b) x
    added-shows =
        ap₂ (λ (c d : Course). drop (length c.events) d.events) (runs b (bytes-front b x y) p)
        (runs (b ++ x) y q)
        ∙ ap (drop (length (shows start b))) (shows-append start b x)
        ∙ drop-append_seam (shows start b) (shows (after start b) x)

    fault-behind : (course_of (b ++ x)).fault ≡ fault_of (after (after start b) x)
    fault-behind = ap (λ (c : Course). c.fault) (runs (b ++ x) y q) ∙ ap fault_of (after-append start b x)

  -- what a call gives, by the refusal of a call that takes nothing
  abbrev by_fault : Or (Unit {0}) → Call
  by_fault (Ok _) =
      record { events = shows (after start b) x; refusal = fault_of (after (after start b) x); taken = b ++ x }
  by_fault (Err r) = kept b (Err r)

  or_kept_lem : (r : Or (Unit {0})) → or_kept b r (by_fault (Ok tt)) ≡ by_fault r
  or_kept_lem (Ok _) = refl
  or_kept_lem (Err r) = refl

  called-by : (f : Or (Unit {0})) → fault_of (after start b) ≡ f → (g : Or (Unit {0})) → past_fault (b ++ x) ≡ g
      → call_of b x room ≡ by_fault (call_fault (after start b) x room)
  unfolding call_fault call_of
  called-by (Err r) e g h = rw (fault-before, e)
  called-by (Ok _) e (Err r) h = rw (fault-before, e, past-reached b x y p e, h)
  called-by (Ok _) e (Ok _) h =
      rw (fault-before, e, past-reached b x y p e, h, added-shows h, fault-behind h)
      (or_kept_lem (room_fault (shows (after start b) x) room))

  called : call_of b x room ≡ by_fault (call_fault (after start b) x room)
  called = called-by (fault_of (after start b)) refl (past_fault (b ++ x)) refl

  -- an answer, by what a call gives
  abbrev answered : Call → Followed
  answered c =
      record {
        state = after start c.taken;
        taken = length c.taken - length b;
        events = length c.events;
        refusal = c.refusal;
      }

  answer-by : (f : Or (Unit {0})) → followed_by f (after start b) x ≡ answered (by_fault f)
  answer-by (Ok _) =
      let e : length (b ++ x) - length b ≡ length x = omega (arith, length-append b x) in rw (after-append start b x, e)
  answer-by (Err r) = let e : length b - length b ≡ 0 = omega arith in rw e

  given_by_lem : (f : Or (Unit {0})) → given_by f (after start b) x ≡ (by_fault f).events
  given_by_lem (Ok _) = refl
  given_by_lem (Err r) = refl

  keeps-by : (f : Or (Unit {0})) → call_fault (after start b) x room ≡ f → past_fault (by_fault f).taken ≡ Ok tt
  unfolding call_fault
  keeps-by (Ok _) e =
      let g = both-fine (fault_of (after start b)) (then_check (past_of (after start b) x) _) e in
      let h = both-fine (past_of (after start b) x) (room_fault (shows (after start b) x) room) g.1 in
      sym (past-reached b x y p g.0) ∙ h.0
  keeps-by (Err r) e = p

  pub call-answer : followed_of (after start b) x room
      ≡ record {
        state = after start (call_of b x room).taken;
        taken = length (call_of b x room).taken - length b;
        events = length (call_of b x room).events;
        refusal = (call_of b x room).refusal;
      }
  unfolding followed_of
  call-answer = answer-by (call_fault (after start b) x room) ∙ ap answered (sym called)

  pub call-given : given_of (after start b) x room ≡ (call_of b x room).events
  unfolding given_of
  call-given = given_by_lem (call_fault (after start b) x room) ∙ ap (λ (c : Call). c.events) (sym called)

  pub call-keeps : past_fault (call_of b x room).taken ≡ Ok tt
  call-keeps = rw called (keeps-by (call_fault (after start b) x room) refl)
