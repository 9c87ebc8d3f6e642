-- One call on a state: its events read back from the lists, and its lines. Assumes nothing.
--     given-count, given-most     how many events it lists, and that there is room for them
--     telling                     the contract, where its events' lines were added, and the line behind them
use Rattle.std.specs.Prelude.{Ok, Err}
use Prim.Native.Nat.{ℕ, ◌+◌, ◌≤◌}
use mathlib.Core.Path.{◌≡◌, refl, ap, ◌∙◌}
use mathlib.Core.List.{List, ◌++◌}
use native.Mathlib.Omega.{arith}
use lib.ListN.{length}
use Rattle.def_refusals.specs.Answers.{Or}
use Rattle.def_portions.specs.Lists.{room_in}
use Rattle.def_portions.specs.declared.Event.{Event}
use Rattle.def_dump.specs.EventLines.{event_lines}
use Rattle.def_probe.specs.Requests.{ending_of}
use Rattle.states.specs.declared.Portions.{Portions}
use Rattle.states.specs.declared.Followed.{Followed}
use Rattle.states.specs.Call.{call_fault, followed_by, followed_of, given_by, given_of, Following}
use Rattle.def_text.specs.Buffer.{Added}
use Rattle.print.proofs.AddedLaws.{and_then, reads}
use Rattle.portions.proofs.CallLaws.{room-fine}
use Rattle.event_lists.specs.Parts.{events_in, AllInRange, none_left}
use Rattle.event_lists.proofs.PartsLaws.{laid-back}
use Rattle.ask_portions.specs.Told.{told_of, Telling}
use Rattle.ask_portions.proofs.InRangeLaws.{Bounded, shows-in-range}

module _ (st : Portions) (x : List ℕ) where
  -- by the refusal of a call that takes nothing
  count_by : (f : Or (Unit {0})) → (followed_by f st x).events ≡ length (given_by f st x)
  count_by (Ok _) = refl
  count_by (Err y) = refl

  in-range-by : (f : Or (Unit {0})) → Bounded st → AllInRange (given_by f st x)
  in-range-by (Ok _) b = shows-in-range st x b
  in-range-by (Err y) b = none_left

  module _ (room : ℕ) where
    most-by : (f : Or (Unit {0})) → call_fault st x room ≡ f → length (given_by f st x) ≤ room
    most-by (Ok _) e = room-fine st x room e
    most-by (Err y) e = omega arith

    pub given-count : (followed_of st x room).events ≡ length (given_of st x room)
    unfolding followed_of given_of
    given-count = count_by (call_fault st x room)

    pub given-most : length (given_of st x room) ≤ room
    unfolding given_of
    given-most = most-by (call_fault st x room) refl

    given-in-range : Bounded st → AllInRange (given_of st x room)
    unfolding given_of
    given-in-range b = in-range-by (call_fault st x room) b

-- what a call left
module _ {st : Portions} {x t u v w : List ℕ} {r : Followed} {t1 u1 v1 w1 : List ℕ}
    (f : Following st x t u v w r t1 u1 v1 w1) (b : Bounded st) where
  abbrev given : List Event
  given = given_of st x (room_in t u v w)

  counted : r.events ≡ length given
  counted = ap (λ (a : Followed). a.events) f.answer ∙ given-count st x (room_in t u v w)

  -- the lists hold its events
  pub listed : events_in t1 u1 v1 w1 r.events ≡ given
  listed =
      let m = given-most st x (room_in t u v w) in
      let p : r.events ≡ 0 + length given = omega (arith, counted) in
      laid-back (given-in-range st x (room_in t u v w) b) m
      (record { tags = f.tags; numbers = f.numbers; values = f.values; sums = f.sums; past = p })

  -- the lines of what stands in the lists, and the line behind them
  lines : event_lines (events_in t1 u1 v1 w1 r.events) ++ ending_of r.refusal (length x) r.events
      ≡ told_of st x (room_in t u v w)
  unfolding told_of
  lines = rw (listed, counted, f.answer)

  pub telling : {l m l1 : List ℕ} {at j k : ℕ} → Added l at (event_lines (events_in t1 u1 v1 w1 r.events)) m j
      → Added m j (ending_of r.refusal (length x) r.events) l1 k
      → Telling st x (room_in t u v w) l at (record { state = r.state; taken = r.taken; at = k }) l1
  telling p q =
      record {
        state = ap (λ (a : Followed). a.state) f.answer;
        taken = ap (λ (a : Followed). a.taken) f.answer;
        text = reads lines (and_then p q);
      }
