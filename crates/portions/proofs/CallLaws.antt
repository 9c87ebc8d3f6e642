-- One call, by what refuses it: the one place that unfolds `call_fault`, `followed_of` and `given_of`. Assumes nothing.
use Rattle.std.specs.Prelude.{Ok, Err}
use Prim.Native.Nat.{ℕ, ◌≤◌, ◌<◌}
use mathlib.Core.Path.{◌≡◌}
use mathlib.Core.List.{List}
use native.Mathlib.Nat.{zero-add}
use native.Mathlib.Omega.{arith}
use lib.ListN.{length}
use lib.Dec.{leb}
use borrow.Author.Tests.{leb-true, le-leb, lt-leb}
use Rattle.def_refusals.specs.declared.Refusal.{Refusal}
use Rattle.def_refusals.specs.declared.Refusal.TheVariants.{NoRoom}
use Rattle.def_refusals.specs.Answers.{then_check, Or}
use Rattle.def_portions.specs.Calls.{room_fault}
use Rattle.def_portions.specs.Lists.{laid_by, room_in}
use Rattle.event_lists.specs.Laid.{Laid}
use Rattle.states.specs.declared.Portions.{Portions}
use Rattle.states.specs.Steps.{fault_of, after, shows}
use Rattle.states.specs.Call.{past_of, call_fault, followed_of, given_of, Following}
use Rattle.portions.proofs.PastLaws.{need-fine}

-- of two checks that are fine, the second is
second : (a b : Or (Unit {0})) → then_check a b ≡ Ok tt → b ≡ Ok tt
second (Ok _) b e = e
second (Err y) b e = absurd (let z : ◌≡◌ {A = ℕ} 0 1 = cc in omega arith)

module _ (st : Portions) (x : List ℕ) (room : ℕ) where
  -- 11
  pub room-enough : length (shows st x) ≤ room → (Ok tt) ≡ room_fault (shows st x) room
  room-enough h = rw (le-leb _ _ h)

  pub room-short : (n : ℕ) → n ≡ length (shows st x) → room < n → Err (NoRoom n room) ≡ room_fault (shows st x) room
  room-short n e h = let k : room < length (shows st x) = omega arith in rw (e, lt-leb _ _ k)

  -- one that stays, 19, 11
  pub call_stays : (y : Refusal) → fault_of st ≡ Err y → Err y ≡ call_fault st x room
  unfolding call_fault
  call_stays y f = rw f

  pub call-past : (y : Refusal) → fault_of st ≡ Ok tt → past_of st x ≡ Err y → Err y ≡ call_fault st x room
  unfolding call_fault
  call-past y f p = rw (f, p)

  pub call-room : fault_of st ≡ Ok tt → past_of st x ≡ Ok tt → room_fault (shows st x) room ≡ call_fault st x room
  unfolding call_fault
  call-room f p = rw (f, p)

-- where nothing refuses it there is room
pub room-fine : (st : Portions) (x : List ℕ) (room : ℕ) → call_fault st x room ≡ Ok tt → length (shows st x) ≤ room
unfolding call_fault
room-fine st x room e =
    let r = room_fault (shows st x) room in
    let f : r ≡ (Ok tt) = second (past_of st x) r (second (fault_of st) (then_check (past_of st x) r) e) in
    leb-true _ _ (need-fine (leb (length (shows st x)) room) _ f)

-- a call that takes all its bytes, and one that takes nothing
module _ {st : Portions} {x t u v w : List ℕ} where
  pub following : {s : Portions} {n : ℕ} {z : Or (Unit {0})} {t1 u1 v1 w1 : List ℕ}
      → call_fault st x (room_in t u v w) ≡ Ok tt → s ≡ after st x → z ≡ fault_of s
      → Laid (shows st x) 0 t u v w t1 u1 v1 w1 n
      → Following st x t u v w (record { state = s; taken = length x; events = n; refusal = z }) t1 u1 v1 w1
  unfolding followed_of given_of
  following f e g l =
      record {
        answer = rw (f, g, e, l.past, zero-add);
        tags = rw f l.tags;
        numbers = rw f l.numbers;
        values = rw f l.values;
        sums = rw f l.sums;
      }

  pub unmoved : {y : Refusal} → call_fault st x (room_in t u v w) ≡ Err y
      → Following st x t u v w (record { state = st; taken = 0; events = 0; refusal = Err y }) t u v w
  unfolding followed_of given_of laid_by
  unmoved f = record { answer = rw f; tags = rw f; numbers = rw f; values = rw f; sums = rw f }
