-- The whole fold: from the start it shows what def_portions says of all bytes so far. Assumes bytes below 256.
--     runs     the course of the bytes s is what the fold over them shows
use Rattle.std.specs.Prelude.{Ok, Err}
use Prim.Native.Nat.{ℕ, ◌-◌, ◌≤◌, ◌<◌}
use mathlib.Core.Path.{◌≡◌, refl, sym, ap, ◌∙◌}
use mathlib.Core.Bool.{cond}
use mathlib.Core.List.{List, [], ◌∷◌, ◌++◌}
use native.Mathlib.Omega.{arith}
use lib.ListN.{length, drop}
use lib.Dec.{ltb}
use borrow.Author.Tests.{ltb-true, ltb-false, le-ltb}
use Rattle.def_refusals.specs.Answers.{Or}
use Rattle.laws.proofs.Tests.{either}
use Rattle.utils.proofs.BytesLaws.{Bytes}
use Rattle.def_refusals.specs.declared.Refusal.{Refusal}
use Rattle.def_wire.specs.Bytes.{four}
use Rattle.def_wire.specs.Packet.{announced_of, ssrc_of}
use Rattle.def_portions.specs.declared.Event.TheVariants.{Header}
use Rattle.def_portions.specs.Events.{Course, course, quiet, then, unless, head_fault, blocks_from, course_of}
use Rattle.def_portions.specs.Calls.{past_fault}
use Rattle.states.specs.declared.Known.{Known}
use Rattle.states.specs.declared.Portions.{Portions}
use Rattle.states.specs.Steps.{state, head, sender, known, start, held_over, low32, item_fault, passed, shown_by, lone_of}
use Rattle.states.specs.Steps.{next_block, in_packet, after, shows, fault_of}
use Rattle.followed.specs.Run.{run_of, opening}
use Rattle.followed.proofs.ItemRun.{whole, item-open, item-passed, item_refused, item-behind}
use Rattle.followed.proofs.ValueLaws.{held_low, held_back, bytes_take, bytes_drop}
use Rattle.followed.proofs.CheckLaws.{head-least, past-within}
use Rattle.followed.proofs.BlocksRun.{blocks}

-- the state behind the first four bytes
abbrev pub behind_head : List ℕ → Portions
behind_head v = state sender 4 0 0 (announced_of v - 8) (known (announced_of v) 0 0 0 0)

module _ (a b c d : ℕ) (x : List ℕ) (y : Bytes (a ∷ b ∷ c ∷ d ∷ x)) where
  abbrev s : List ℕ
  s = a ∷ b ∷ c ∷ d ∷ x

  abbrev hd : List ℕ
  hd = a ∷ b ∷ c ∷ d ∷ []

  pub header-back : four (low32 (held_over head 0 hd)) ≡ hd
  header-back = held_back head refl hd refl (bytes_take 4 s y)

  fault-held : item_fault (whole head 4 0 0 (known 0 0 0 0 0) hd) ≡ head_fault s
  unfolding head_fault
  fault-held = ap head_fault header-back

  pub head-refused : (r : Refusal) → head_fault s ≡ Err r → run_of start s ≡ course [] (Err r)
  unfolding start
  head-refused r f = item_refused head 4 0 0 (known 0 0 0 0 0) hd x (omega arith) refl r (fault-held ∙ f)

  head_passed : head_fault s ≡ Ok tt → run_of start s ≡ run_of (behind_head s) x
  unfolding start passed shown_by lone_of in_packet opening
  head_passed f =
      item-passed head 4 0 0 (known 0 0 0 0 0) hd x (omega arith) refl (fault-held ∙ f)
      ∙ ap (λ (v : List ℕ). run_of (behind_head v) x) header-back

  -- the state there
  pub head-after : head_fault s ≡ Ok tt → after start s ≡ after (behind_head s) x
  unfolding start passed in_packet
  head-after f =
      item-behind head 4 0 0 (known 0 0 0 0 0) hd x (omega arith) refl (fault-held ∙ f)
      ∙ ap (λ (v : List ℕ). after (behind_head v) x) header-back

  head-open : length x < 4 → head_fault s ≡ Ok tt → run_of start s ≡ quiet
  head-open h f = head_passed f ∙ item-open sender 4 0 (announced_of s - 8) (known (announced_of s) 0 0 0 0) x h

-- behind the first eight
module _ (a b c d i j k l : ℕ) (x : List ℕ) (y : Bytes (a ∷ b ∷ c ∷ d ∷ i ∷ j ∷ k ∷ l ∷ x)) where
  abbrev p : List ℕ
  p = a ∷ b ∷ c ∷ d ∷ i ∷ j ∷ k ∷ l ∷ x

  abbrev sn : List ℕ
  sn = i ∷ j ∷ k ∷ l ∷ []

  sender-passed : (behind : ℕ) (kn : Known)
      → run_of (state sender 4 0 0 behind kn) (sn ++ x)
      ≡ then (Header kn.announced (ssrc_of p) ∷ []) (opening (next_block kn behind) x)
  unfolding passed shown_by lone_of
  sender-passed behind kn =
      let z : Bytes sn = bytes_take 4 (drop 4 p) (bytes_drop 4 p y) in
      item-passed sender 4 0 behind kn sn x (omega arith) refl refl
      ∙ (rw (held_low sender refl sn refl z))

  blocks-passed : head_fault p ≡ Ok tt → past_fault p ≡ Ok tt
      → run_of start p ≡ then (Header (announced_of p) (ssrc_of p) ∷ []) (blocks_from p (announced_of p) (length p) 8)
  blocks-passed f h =
      let n = announced_of p in
      let u : 8 ≤ n = head-least p f in
      let w : length p ≤ n = past-within p (omega arith) f h in
      head_passed a b c d (sn ++ x) y f ∙ sender-passed (n - 8) (known n 0 0 0 0)
      ∙ ap (then (Header n (ssrc_of p) ∷ []))
      (blocks p y n w (length p) 8 (n - 8) (known n 0 0 0 0) (omega arith) (omega arith) (omega arith) (omega arith))

-- what a good header and the bytes behind it show
abbrev rest_of : List ℕ → Course
rest_of s =
    cond (ltb (length s) 8) quiet
    (then (Header (announced_of s) (ssrc_of s) ∷ []) (blocks_from s (announced_of s) (length s) 8))

good-head : (a b c d : ℕ) (x : List ℕ) → let s = a ∷ b ∷ c ∷ d ∷ x in
    Bytes s → past_fault s ≡ Ok tt → head_fault s ≡ Ok tt → run_of start s ≡ rest_of s
good-head a b c d [] y p f = head-open a b c d [] y (omega arith) f
good-head a b c d (i ∷ []) y p f = head-open a b c d (i ∷ []) y (omega arith) f
good-head a b c d (i ∷ j ∷ []) y p f = head-open a b c d (i ∷ j ∷ []) y (omega arith) f
good-head a b c d (i ∷ j ∷ k ∷ []) y p f = head-open a b c d (i ∷ j ∷ k ∷ []) y (omega arith) f
good-head a b c d (i ∷ j ∷ k ∷ l ∷ x) y p f =
    let n = length (a ∷ b ∷ c ∷ d ∷ i ∷ j ∷ k ∷ l ∷ x) in
    rw (le-ltb n 8 (omega arith)) (blocks-passed a b c d i j k l x y f p)

-- the header's refusal, or that
after-head : (s : List ℕ) → 4 ≤ length s → Bytes s → past_fault s ≡ Ok tt → (f : Or (Unit {0})) → head_fault s ≡ f
    → run_of start s ≡ unless f (rest_of s)
after-head [] h y p f e = absurd (omega arith)
after-head (a ∷ []) h y p f e = absurd (omega arith)
after-head (a ∷ b ∷ []) h y p f e = absurd (omega arith)
after-head (a ∷ b ∷ c ∷ []) h y p f e = absurd (omega arith)
after-head (a ∷ b ∷ c ∷ d ∷ x) h y p (Ok _) e = good-head a b c d x y p e
after-head (a ∷ b ∷ c ∷ d ∷ x) h y p (Err r) e = head-refused a b c d x y r e

pub runs : (s : List ℕ) → Bytes s → past_fault s ≡ Ok tt → course_of s ≡ course (shows start s) (fault_of (after start s))
unfolding run_of course_of start
runs s y p =
    either (ltb (length s) 4)
    (λ t. rw t (sym (item-open head 4 0 0 (known 0 0 0 0 0) s (ltb-true _ _ t))))
    (λ f. rw f (sym (after-head s (ltb-false _ _ f) y p (head_fault s) refl)))
