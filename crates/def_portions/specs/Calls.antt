-- What one call gives, from the bytes that the calls before it took (RULES, "Packets in portions"). Here stands the
-- order of refusals: one that stays; 1, 2, 3, 18; 19; 11; 6, 7.
--     call_of     the events that a call adds, its refusal, and the bytes taken then
use Rattle.std.specs.Prelude.{ℕ, cond, List, [], ◌++◌, length, drop, ltb, leb, Ok, Err}
use Rattle.def_refusals.specs.declared.Refusal.TheVariants.{NoRoom, PastEnd}
use Rattle.def_refusals.specs.Answers.{then_check, Or}
use Rattle.def_wire.specs.Packet.{announced_of}
use Rattle.def_portions.specs.declared.Event.{Event}
use Rattle.def_portions.specs.Events.{course_of, head_fault, need}

-- the events that a call adds, why it is refused, and the bytes that were taken, its own among them
pub record Call : Type 0 where
  pub events : List Event
  pub refusal : Or (Unit {0})
  pub taken : List ℕ

-- a refused call that takes nothing
abbrev pub kept : List ℕ → Or (Unit {0}) → Call
kept b x = record { events = []; refusal = x; taken = b }

abbrev pub or_kept : List ℕ → Or (Unit {0}) → Call → Call
or_kept b (Ok _) c = c
or_kept b (Err x) c = kept b (Err x)

-- 19, where the header has come and is good: the announced length and the bytes given in all
abbrev pub where_good : Or (Unit {0}) → Or (Unit {0}) → Or (Unit {0})
where_good (Ok _) x = x
where_good (Err y) x = Ok tt

unfoldable pub past_fault : List ℕ → Or (Unit {0})
past_fault s =
    cond (ltb (length s) 4) (Ok tt)
    (where_good (head_fault s) (need (leb (length s) (announced_of s)) (PastEnd (announced_of s) (length s))))

-- what the bytes s show that the bytes b, which they begin with, did not
abbrev pub added : List ℕ → List ℕ → List Event
added b s = drop (length (course_of b).events) (course_of s).events

-- 11: the events that the call would add, the events that fit
abbrev pub room_fault : List Event → ℕ → Or (Unit {0})
room_fault es room = need (leb (length es) room) (NoRoom (length es) room)

-- a call with the bytes x and room for so many events, where the bytes b were taken before
unfoldable pub call_of : List ℕ → List ℕ → ℕ → Call
call_of b x room =
    or_kept b (course_of b).fault
    (or_kept b (then_check (past_fault (b ++ x)) (room_fault (added b (b ++ x)) room))
    (record { events = added b (b ++ x); refusal = (course_of (b ++ x)).fault; taken = b ++ x }))
