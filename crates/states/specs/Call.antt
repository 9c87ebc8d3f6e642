-- What a call gives on a state, whatever state it is: the bytes one after another (Steps). That this is what
-- def_portions says of the bytes, for states that calls gave, is in `claims`.
--     call_fault      the refusal of a call that takes nothing: one that stays, 19, 11
--     followed_of     the answer
--     Following      the contract: the answer, and what the four lent lists then hold
use Rattle.std.specs.Prelude.{ℕ, ◌+◌, ◌-◌, ◌≡◌, cond, ◌&&◌, List, [], length, take, leb, eqb, Ok, Err}
use Rattle.def_refusals.specs.declared.Refusal.TheVariants.{PastEnd}
use Rattle.def_refusals.specs.Answers.{then_check, Or}
use Rattle.def_wire.specs.Bytes.{four}
use Rattle.def_portions.specs.declared.Event.{Event}
use Rattle.def_portions.specs.Events.{need}
use Rattle.def_portions.specs.Calls.{room_fault}
use Rattle.def_portions.specs.Lists.{tag_part, number_part, value_part, laid, laid_sums, room_in}
use Rattle.states.specs.declared.Portions.{Portions}
use Rattle.states.specs.Steps.{head, low32, held_over, good_length, fault_of, after, shows}
use Rattle.states.specs.declared.Followed.{Followed}

-- the announced length, as far as it is known with the bytes x; else 0
unfoldable pub announced_by : Portions → List ℕ → ℕ
announced_by st x =
    cond (eqb st.item head)
    (cond (leb st.missing (length x))
    (good_length (four (low32 (held_over head st.held (take st.missing x))))) 0)
    st.known.announced

-- how many bytes were taken before
unfoldable pub taken_in : Portions → ℕ
taken_in st = cond (eqb st.item head) (4 - st.missing) (st.known.announced - st.behind - st.rest - st.missing)

-- 19, of the announced length and the bytes given in all
abbrev pub past_by : ℕ → ℕ → Or (Unit {0})
past_by announced given = need (leb given announced) (PastEnd announced given)

-- not while the header is not known, or not good. Behind it the length is known: so no state takes more bytes than 32
-- bits can say
unfoldable pub past_of : Portions → List ℕ → Or (Unit {0})
past_of st x =
    cond (eqb st.item head && eqb (announced_by st x) 0) (Ok tt) (past_by (announced_by st x) (taken_in st + length x))

unfoldable pub call_fault : Portions → List ℕ → ℕ → Or (Unit {0})
call_fault st x room = then_check (fault_of st) (then_check (past_of st x) (room_fault (shows st x) room))

abbrev pub followed_by : Or (Unit {0}) → Portions → List ℕ → Followed
followed_by (Ok _) st x =
    record { state = after st x; taken = length x; events = length (shows st x); refusal = fault_of (after st x) }
followed_by (Err y) st x = record { state = st; taken = 0; events = 0; refusal = Err y }

unfoldable pub followed_of : Portions → List ℕ → ℕ → Followed
followed_of st x room = followed_by (call_fault st x room) st x

-- the events that the call lists
abbrev pub given_by : Or (Unit {0}) → Portions → List ℕ → List Event
given_by (Ok _) st x = shows st x
given_by (Err y) st x = []

unfoldable pub given_of : Portions → List ℕ → ℕ → List Event
given_of st x room = given_by (call_fault st x room) st x

pub record Following (st : Portions) (x t u v w : List ℕ) (r : Followed) (t' u' v' w' : List ℕ) : Type 0 where
  pub answer : r ≡ followed_of st x (room_in t u v w)
  pub tags : t' ≡ laid tag_part (given_of st x (room_in t u v w)) 0 t
  pub numbers : u' ≡ laid number_part (given_of st x (room_in t u v w)) 0 u
  pub values : v' ≡ laid value_part (given_of st x (room_in t u v w)) 0 v
  pub sums : w' ≡ laid_sums (given_of st x (room_in t u v w)) 0 w
