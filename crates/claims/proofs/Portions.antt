-- A packet that comes in portions, by calls. Assumes nothing.
--     reached        a state that calls gave is the one behind the bytes that they took
--     call-shows     what the next call gives
--     fed-shows      what calls one after the other list, and the last refusal
--     division, whole-reading, one_byte
use Rattle.std.specs.Prelude.{Option, Ok, Err, Some, None}
use Prim.Native.Nat.{ℕ, ◌+◌, ◌-◌, ◌%◌, ◌≤◌}
use mathlib.Core.Path.{◌≡◌, refl, sym, ap, ap₂, subst, ◌∙◌}
use mathlib.Core.Bool.{Bool, true, false, not, ◌&&◌}
use mathlib.Core.List.{List, [], ◌∷◌, ◌++◌}
use native.Mathlib.Omega.{arith}
use lib.ListN.{length, take}
use lib.Dec.{leb, eqb}
use borrow.Author.Tests.{eqb-true, le-leb}
use Rattle.def_wire.specs.declared.Kind.{Kind}
use Rattle.laws.proofs.Tests.{by-test}
use Rattle.def_refusals.specs.declared.Refusal.{Refusal}
use Rattle.def_refusals.specs.declared.Refusal.TheVariants.{TooShort, WrongVersion, WrongPacketType, NoRoom, PastEnd}
use Rattle.def_refusals.specs.declared.Refusal.TheVariants.{Padded, BlockTooLong}
use Rattle.def_refusals.specs.Answers.{then_check, Or}
use Rattle.def_wire.specs.declared.Kind.TheVariants.{Spans, Clock, Echoes, Statistics}
use Rattle.def_wire.specs.Packet.{announced_of, is_padded, version_of}
use Rattle.def_wire.specs.Bytes.{byte_at, four}
use Rattle.def_wire.specs.Block.{rule, next_fit, type_of, block_length, kind_of, standard_rule, lost_run, has, clear_rule}
use Rattle.def_portions.specs.declared.Event.{Event}
use Rattle.def_portions.specs.Events.{Course, course, need, head_fault, block_fault, rule_of}
use Rattle.def_portions.specs.Calls.{Call, call_of, past_fault, room_fault}
use Rattle.def_portions.specs.Lists.{room_in}
use Rattle.states.specs.declared.Portions.{Portions}
use Rattle.states.specs.declared.Followed.{Followed}
use Rattle.states.specs.Steps.{start, head, block, word, low16, low32, fault_of, after, shows}
use Rattle.states.specs.Call.{announced_by, taken_in, past_of, call_fault, followed_by}
use Rattle.states.specs.Call.{followed_of, given_by, given_of, Following}
use Rattle.states.proofs.RunLaws.{after-append, shows-append, after-closed, shows-closed}
use Rattle.portions.proofs.MostLaws.{most-shown}
use Rattle.ask_portions.proofs.InRangeLaws.{Bounded, bounded-start, bounded-after}
use Rattle.ask_portions.proofs.ReachedLaws.{takes}
use Rattle.ask_portions.proofs.ToldLaws.{listed}
use Rattle.followed.proofs.CourseRun.{runs}
use Rattle.followed.proofs.CallLaws.{call-answer, call-given, call-keeps}
use Rattle.followed.proofs.WholeLaws.{whole, whole-within}
use Rattle.claims.specs.Portions.{Bytes, Reached, begun, behind, CallShows, IsTaken, Fed, ended, fed, Division}
use Rattle.claims.specs.Portions.{WholeReading, OneByte}

-- ---- states that calls gave

record Stands (st : Portions) (b : List ℕ) : Type 0 where
  state : st ≡ after start b
  within : past_fault b ≡ Ok tt

module _ {st : Portions} {b x t u v w t' u' v' w' : List ℕ} {r : Followed} (s : Stands st b) (y : Bytes (b ++ x))
    (f : Following st x t u v w r t' u' v' w') where
  abbrev call : Call
  call = call_of b x (room_in t u v w)

  answer : r
      ≡ record {
        state = after start call.taken;
        taken = length call.taken - length b;
        events = length call.events;
        refusal = call.refusal;
      }
  answer = f.answer ∙ (rw s.state (call-answer b x (room_in t u v w) y s.within))

  taken : b ++ take r.taken x ≡ call.taken
  taken = rw (ap (λ (a : Followed). a.taken) answer) (sym (takes b x (room_in t u v w)).0)

  stands : Stands r.state (b ++ take r.taken x)
  stands =
      record {
        state = ap (λ (a : Followed). a.state) answer ∙ ap (after start) (sym taken);
        within = rw taken (call-keeps b x (room_in t u v w) y s.within);
      }

reached : {st : Portions} {b : List ℕ} → Reached st b → Stands st b
unfolding after past_fault
reached begun = record { state = refl; within = refl }
reached (behind r y f) = stands (reached r) y f

pub call-shows : CallShows
call-shows st b x t u v w t' u' v' w' r g y f =
    let s = reached g in
    let bound : Bounded st = rw s.state (bounded-after start b bounded-start) in (
      ap (λ (a : Followed). a.refusal) (answer s y f),
      taken s y f,
      listed f bound ∙ (rw s.state (call-given b x (room_in t u v w) y s.within)),
    )

-- ---- calls one after the other

unlike : {P : Type 0} {z : Refusal} → ◌≡◌ {A = Or (Unit {0})} (Ok tt) (Err z) → P
unlike e = absurd (let q : ◌≡◌ {A = ℕ} 0 1 = cc in omega arith)

unfit : {x z : Refusal} → ◌≡◌ {A = Or (Unit {0})} (Err x) (Err z) → x ≡ z
unfit e = cc

-- what a call that is neither 11 nor 19 leaves
record Took (st : Portions) (x : List ℕ) (f : Or (Unit {0})) : Type 0 where
  given : given_by f st x ≡ shows st x
  state : (followed_by f st x).state ≡ after st x
  refusal : (followed_by f st x).refusal ≡ fault_of (after st x)

-- a state that stays refused takes nothing
closed : (st : Portions) (z : Refusal) → fault_of st ≡ Err z → st.missing ≡ 0
unfolding fault_of
closed st z =
    by-test (eqb st.missing 0) (λ t e. eqb-true _ _ t) (λ t e. unlike e)

-- 19 and 11 are what they are
need-is : (b : Bool) (x z : Refusal) → need b x ≡ Err z → ◌≡◌ {A = Or (Unit {0})} (Err z) (Err x)
need-is true x z e = unlike e
need-is false x z e = sym e

module _ (st : Portions) (x : List ℕ) (room : ℕ) where
  past_is : (z : Refusal) → past_of st x ≡ Err z
      → ◌≡◌ {A = Or (Unit {0})} (Err z) (Err (PastEnd (announced_by st x) (taken_in st + length x)))
  unfolding past_of
  past_is z =
      by-test (eqb st.item head && eqb (announced_by st x) 0) (λ t e. unlike e)
      (λ t e. need-is (leb (taken_in st + length x) (announced_by st x)) _ z e)

  took_by : (f g h : Or (Unit {0})) → fault_of st ≡ f → past_of st x ≡ g → room_fault (shows st x) room ≡ h
      → IsTaken (followed_by (then_check f (then_check g h)) st x).refusal → Took st x (then_check f (then_check g h))
  took_by (Err z) g h e p q i =
      let m = closed st z e in
      record {
        given = sym (shows-closed st m x);
        state = sym (after-closed st m x);
        refusal = rw (after-closed st m x) (sym e);
      }
  took_by (Ok _) (Err z) h e p q i = absurd (i.1 _ _ (past_is z p))
  took_by (Ok _) (Ok _) (Err z) e p q i = absurd (i.0 _ _ (need-is (leb (length (shows st x)) room) _ z q))
  took_by (Ok _) (Ok _) (Ok _) e p q i = record { given = refl; state = refl; refusal = refl }

  took : IsTaken (followed_of st x room).refusal → Took st x (call_fault st x room)
  unfolding followed_of call_fault
  took i = took_by (fault_of st) (past_of st x) (room_fault (shows st x) room) refl refl refl i

record Shown (st : Portions) (s : List ℕ) (es : List Event) (last : Or (Unit {0})) : Type 0 where
  events : es ≡ shows st s
  refusal : last ≡ fault_of (after st s)

fed-shows : {st : Portions} {told last : Or (Unit {0})} {s : List ℕ} {es : List Event} → Fed st told s es last → Bounded st
    → told ≡ fault_of st → Shown st s es last
unfolding shows after followed_of given_of
fed-shows ended b e = record { events = refl; refusal = e }
fed-shows {st} (fed {x = x} {y = y} {t = t} {u = u} {v = v} {w = w} {r = r} f i rest) b e =
    let room = room_in t u v w in
    let k = took st x room (subst IsTaken (ap (λ (a : Followed). a.refusal) f.answer) i) in
    let state : r.state ≡ after st x = ap (λ (a : Followed). a.state) f.answer ∙ k.state in
    let told : r.refusal ≡ fault_of r.state =
    ap (λ (a : Followed). a.refusal) f.answer ∙ k.refusal ∙ ap fault_of (sym state) in
    let ih = fed-shows rest (subst Bounded (sym state) (bounded-after st x b)) told in
    record {
      events = ap₂ ◌++◌ (listed f b ∙ k.given) (ih.events ∙ ap (λ (s : Portions). shows s y) state)
          ∙ sym (shows-append st x y);
      refusal = ih.refusal ∙ ap (λ (s : Portions). fault_of (after s y)) state ∙ ap fault_of (sym (after-append st x y));
    }

pub division : Division
unfolding start fault_of
division s es x w y p =
    let k = fed-shows w bounded-start refl in
    ap₂ course k.events k.refusal ∙ sym (runs s y p)

pub whole-reading : WholeReading
whole-reading s n es x w y c p f =
    let d = division s es x w y (whole-within s n c p) ∙ whole s n c p f in
    (ap (λ (a : Course). a.events) d, ap (λ (a : Course). a.fault) d)

-- ---- one byte

-- no item is refused as 11
module _ (n m : ℕ) where
  checked : (b : Bool) (x : Refusal) (next : Or (Unit {0})) → (◌≡◌ {A = Refusal} x (NoRoom n m) → ⊥)
      → (next ≡ Err (NoRoom n m) → ⊥) → then_check (need b x) next ≡ Err (NoRoom n m) → ⊥
  checked true x next f g e = g e
  checked false x next f g e = f (unfit e)

  ruled : (b : Bool) (expected actual : ℕ) → rule b expected actual ≡ Err (NoRoom n m) → ⊥
  ruled true expected actual e = unlike e
  ruled false expected actual e = absurd (let q : ◌≡◌ {A = ℕ} 0 1 = cc in omega arith)

  by_kind : (k : Option Kind) (l : ℕ) → rule_of k l ≡ Err (NoRoom n m) → ⊥
  unfolding standard_rule
  by_kind (Some (Spans g)) l e = ruled (leb 12 l) 12 l e
  by_kind (Some Clock) l e = ruled (eqb l 12) 12 l e
  by_kind (Some Echoes) l e = ruled (eqb ((l - 4) % 12) 0) (next_fit l) l e
  by_kind (Some Statistics) l e = ruled (eqb l 40) 40 l e
  by_kind None l e = unlike e

  head-not : (s : List ℕ) → head_fault s ≡ Err (NoRoom n m) → ⊥
  unfolding head_fault
  head-not s =
      checked (leb 8 (announced_of s)) (TooShort 8 (announced_of s)) _ (λ (e : TooShort 8 (announced_of s)
      ≡ NoRoom n m).
      absurd (let q : ◌≡◌ {A = ℕ} 0 1 = cc in omega arith))
      (checked (eqb (version_of s) 2) WrongVersion _ (λ (e : WrongVersion
      ≡ NoRoom n m).
      absurd (let q : ◌≡◌ {A = ℕ} 0 1 = cc in omega arith))
      (checked (eqb (byte_at s 1) 207) WrongPacketType _ (λ (e : WrongPacketType
      ≡ NoRoom n m). absurd (let q : ◌≡◌ {A = ℕ} 0 1 = cc in omega arith))
      (λ e. let z : NoRoom n m ≡ Padded = unfit (need-is (not (is_padded s)) Padded (NoRoom n m) e) in
      absurd (let q : ◌≡◌ {A = ℕ} 0 1 = cc in omega arith))))

  not-room : (st : Portions) → fault_of st ≡ Err (NoRoom n m) → ⊥
  unfolding fault_of block_fault clear_rule
  not-room st =
      by-test (eqb st.missing 0)
      (λ t. by-test (eqb st.item head) (λ h e. head-not (four (low32 st.held)) e)
      (λ h. by-test (eqb st.item block)
      (λ b. let v = four (low32 st.held) in
      checked (leb (block_length v) (st.behind + 4)) (BlockTooLong (block_length v) (st.behind + 4)) _
      (λ (e : BlockTooLong (block_length v) (st.behind + 4) ≡ NoRoom n m).
      absurd (let q : ◌≡◌ {A = ℕ} 0 1 = cc in omega arith))
      (by_kind (kind_of (type_of v)) (block_length v)))
      (λ b. by-test (eqb st.item word)
      (λ w e. ruled (not (has lost_run (low16 st.held ∷ []))) 12 (block_length (four st.known.block)) e)
      (λ w e. unlike e))))
      (λ t e. unlike e)

  -- a refusal as 11 says that there are more events than room
  room_says : (st : Portions) (x : List ℕ) (room : ℕ) (f g h : Or (Unit {0})) → fault_of st ≡ f → past_of st x ≡ g
      → room_fault (shows st x) room ≡ h → length (shows st x) ≤ room
      → (followed_by (then_check f (then_check g h)) st x).refusal ≡ Err (NoRoom n m) → ⊥
  room_says st x room (Err z) g h e p q l w = not-room st (e ∙ w)
  room_says st x room (Ok _) (Err z) h e p q l w =
      absurd (let o = sym w ∙ past_is st x room z p in let q : ◌≡◌ {A = ℕ} 0 1 = cc in omega arith)
  room_says st x room (Ok _) (Ok _) (Err z) e p q l w = unlike (rw (le-leb _ _ l) at q)
  room_says st x room (Ok _) (Ok _) (Ok _) e p q l w = not-room (after st x) w

pub one_byte : OneByte
unfolding followed_of call_fault
one_byte st b t u v w t' u' v' w' r f l n m e =
    let x = b ∷ [] in
    let room = room_in t u v w in
    room_says n m st x room (fault_of st) (past_of st x) (room_fault (shows st x) room) refl refl refl
    (omega (arith, most-shown st x, l)) (sym (ap (λ (a : Followed). a.refusal) f.answer) ∙ e)
