-- One turn of the loops of `count` and `store`, on plain lists and numbers: some bytes of the item at hand, or a whole
-- block at once. Assumes nothing.
--     Taken             so many bytes of the item at hand, as many as there are
--     some_turn, ..     these bytes, and then the others
--     whole-at          when a whole block is there
--     whole-turn, ..    its bytes, and then the others
use Rattle.std.specs.Prelude.{Ok}
use Prim.Native.Nat.{ℕ, ◌+◌, ◌*◌, ◌-◌, ◌≤◌, ◌<◌, min}
use mathlib.Core.Path.{◌≡◌, refl, sym, ap, ap₂, ◌∙◌}
use mathlib.Core.List.{List, ◌++◌, append_assoc}
use native.Mathlib.Nat.{add-zero}
use native.Mathlib.Omega.{arith}
use lib.ListN.{length, drop, take-append-drop, length-append}
use lib.Seq.{drop-drop}
use Rattle.utils.proofs.BytesLaws.{Bytes, be16-part}
use Rattle.def_wire.specs.Bytes.{be32, four}
use Rattle.def_wire.specs.Packet.{part}
use Rattle.def_wire.specs.Block.{type_of, block_length, kind_of}
use Rattle.def_portions.specs.declared.Event.{Event}
use Rattle.def_portions.specs.Events.{block_fault, block_events, lost_fault}
use Rattle.event_lists.specs.Laid.{Laid}
use Rattle.event_lists.proofs.LaidLaws.{and_then}
use Rattle.states.specs.declared.Portions.{Portions}
use Rattle.states.specs.declared.Settled.{Settled}
use Rattle.states.specs.Steps.{state, block, holds, settled, settled_events, settled_of, next_block, end_in, after, shows}
use Rattle.states.proofs.RunLaws.{item-after, item-shows}
use Rattle.steps.proofs.HeldLaws.{length_part}
use Rattle.followed.proofs.ValueLaws.{bytes_take, bytes_drop}
use Rattle.followed.proofs.WholeBlock.{block-after, block-shows, fault-four, length-four}
use Rattle.portions.specs.Turn.{WholeAt, Turned, TurnCounted, TurnStored}

-- a part, and what is behind it
part-rest : (x : List ℕ) (at m : ℕ) → part x at m ++ drop (at + m) x ≡ drop at x
part-rest x at m = rw (← drop-drop m at x) (take-append-drop m (drop at x))

-- its events are no more than all
pub turned-length : {s st : Portions} {x : List ℕ} {at m : ℕ} {es : List Event} → Turned s x at es st m
    → length (shows s (drop at x)) ≡ length es + length (shows st (drop (at + m) x))
turned-length {st = st} {x} {at} {m} {es} k = ap length k.first ∙ length-append es (shows st (drop (at + m) x))

-- ---- the item at hand

-- m bytes of it, at least one: as many as are missing and as there are
pub record Taken (s : Portions) (x : List ℕ) (at m : ℕ) : Type 0 where
  pub some : 0 < m
  pub more : 0 < s.missing
  pub most : m ≤ s.missing
  pub fits : at + m ≤ length x

pub taken : (s : Portions) (x : List ℕ) (at m : ℕ) → (s.missing ≡ 0 → ⊥) → at < length x
    → m ≡ min s.missing (length x - at) → Taken s x at m
taken s x at m n l e =
    let z : 0 < s.missing = omega (arith, n) in
    record { some = omega (arith, z); more = z; most = omega arith; fits = omega arith }

-- the item with them
abbrev held : Portions → List ℕ → ℕ → ℕ → Portions
held s x at m = holds s (part x at m)

module _ {s : Portions} {x : List ℕ} {at m : ℕ} (k : Taken s x at m) where
  few : length (part x at m) ≤ s.missing
  few = omega (arith, length_part x at m k.fits, k.most)

  some_turn : Turned s x at (settled_events (held s x at m)) (settled (held s x at m)) m
  some_turn =
      let e = sym (part-rest x at m) in
      record {
        some = k.some;
        fits = k.fits;
        behind = ap (after s) e ∙ item-after (drop (at + m) x) s (part x at m) k.more few;
        first = ap (shows s) e ∙ item-shows (drop (at + m) x) s (part x at m) k.more few;
      }

  -- there is room for its events
  pub some-room : (n l : ℕ) → n + length (shows s (drop at x)) ≤ l → n + length (settled_events (held s x at m)) ≤ l
  some-room n l h = omega (arith, h, turned-length some_turn)

  pub some-counted : (r : Settled) → r ≡ settled_of (held s x at m)
      → TurnCounted s x at (record { state = r.state; events = r.events; taken = m })
  some-counted r e = rw e (record { shown = settled_events (held s x at m); turn = some_turn; events = refl })

  pub some_stored : {st : Portions} {n n1 : ℕ} {t u v z t1 u1 v1 z1 : List ℕ} → st ≡ settled (held s x at m)
      → Laid (settled_events (held s x at m)) n t u v z t1 u1 v1 z1 n1
      → TurnStored s x at n t u v z (record { state = st; events = n1; taken = m }) t1 u1 v1 z1
  some_stored e l = rw e (record { shown = settled_events (held s x at m); turn = some_turn; stored = l })

-- ---- a whole block

-- before its first byte
pub before-block : (s : Portions) → s.item ≡ block → s.missing ≡ 4 → s.held ≡ 0 → s.rest ≡ 0
    → s ≡ state block 4 0 0 s.behind s.known
before-block s i m h r =
    let e : state s.item s.missing s.held s.rest s.behind s.known
    ≡ state block 4 0 0 s.behind s.known = rw (i, m, h, r) refl in e

-- its first four bytes as a number
be32-part : (x : List ℕ) (at n : ℕ) → 4 ≤ n → be32 (part x at n) 0 ≡ be32 x at
be32-part x at n h =
    let i = be16-part at n x 0 (omega arith) in
    ap₂ (λ (a b : ℕ). a * 65536 + b) (rw (add-zero) at i) (be16-part at n x 2 (omega arith))

-- what they say: the block is there
module _ (s : Portions) (x : List ℕ) (at l w : ℕ) (u : Bytes x) (e : w ≡ be32 x at) (r : l ≡ block_length (four w))
  where
    pub whole-at : s ≡ state block 4 0 0 s.behind s.known → 4 ≤ l → at + l ≤ length x
        → block_fault (s.behind + 4) (four w) ≡ Ok tt → lost_fault (kind_of (type_of (part x at l))) (part x at l) ≡ Ok tt
        → WholeAt s x at l
    whole-at i h o f c =
        let v = part x at l in
        let b : Bytes v = bytes_take l (drop at x) (bytes_drop at x u) in
        let q : 4 ≤ length v = omega (arith, length_part x at l o) in
        let a : be32 v 0 ≡ w = be32-part x at l h ∙ sym e in
        record {
          fresh = i;
          some = h;
          fits = o;
          bytes = b;
          long = sym (length-four v b q) ∙ ap (λ (j : ℕ). block_length (four j)) a ∙ sym r;
          fine = sym (fault-four (s.behind + 4) v b q) ∙ ap (λ (j : ℕ). block_fault (s.behind + 4) (four j)) a ∙ f;
          clear = c;
        }

module _ {s : Portions} {x : List ℕ} {at l : ℕ} (w : WholeAt s x at l) where
  abbrev next_one : Portions
  next_one = next_block s.known (s.behind - (l - 4))

  abbrev whole : List Event
  whole = block_events (part x at l)

  whole-turn : Turned s x at (whole ++ end_in next_one) next_one l
  whole-turn =
      let v = part x at l in
      let y = drop (at + l) x in
      let e = sym (part-rest x at l) in
      let q : length v ≡ l = length_part x at l w.fits in
      record {
        some = omega (arith, w.some);
        fits = w.fits;
        behind =
            ap₂ after w.fresh e
            ∙ (rw q at (block-after s.known s.behind v y w.bytes (q ∙ sym w.long) w.fine w.clear));
        first =
            ap₂ shows w.fresh e
            ∙ (rw q at (block-shows s.known s.behind v y w.bytes (q ∙ sym w.long) w.fine w.clear))
            ∙ sym (append_assoc whole (end_in next_one) (shows next_one y));
      }

  whole_length : length (shows s (drop at x))
      ≡ length (end_in next_one) + length whole + length (shows next_one (drop (at + l) x))
  whole_length = omega (arith, turned-length whole-turn, length-append whole (end_in next_one))

  -- the state behind it
  module _ {st : Portions} {behind : ℕ} (b : behind ≡ s.behind - (l - 4)) (e : st ≡ next_block s.known behind) where
    next_one_lem : st ≡ next_one
    next_one_lem = e ∙ ap (next_block s.known) b

    -- there is room for its events, and for the packet's end
    pub whole_room : (n m : ℕ) → n + length (shows s (drop at x)) ≤ m → n + length whole + length (end_in st) ≤ m
    whole_room n m h = rw next_one_lem (omega (arith, h, whole_length))

    pub whole-counted : {n m : ℕ} → n ≡ length whole → m ≡ length (end_in st)
        → TurnCounted s x at (record { state = st; events = n + m; taken = l })
    whole-counted {n} {m} p q =
        record {
          shown = whole ++ end_in next_one;
          turn = rw next_one_lem whole-turn;
          events = rw (length-append whole (end_in next_one)) (omega (arith, p, (rw next_one_lem at q)));
        }

    pub whole-stored : {n n1 n2 : ℕ} {t u v z t1 u1 v1 z1 t2 u2 v2 z2 : List ℕ} → Laid whole n t u v z t1 u1 v1 z1 n1
        → Laid (end_in st) n1 t1 u1 v1 z1 t2 u2 v2 z2 n2
        → TurnStored s x at n t u v z (record { state = st; events = n2; taken = l }) t2 u2 v2 z2
    whole-stored p q =
        record {
          shown = whole ++ end_in next_one;
          turn = rw next_one_lem whole-turn;
          stored = and_then p (rw next_one_lem at q);
        }
