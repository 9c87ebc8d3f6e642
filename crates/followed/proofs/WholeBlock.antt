-- A block whose bytes are all there, at once, and that holds no run of no length. Assumes that its bytes are below 256,
-- and nothing of those behind it.
--     block-after     the state behind it does not depend on what was inside
--     block-shows     it shows its events
--     fault-four      its first four bytes show its refusal; length-four, and its length
use Rattle.std.specs.Prelude.{Ok}
use Prim.Native.Nat.{ℕ, suc, ◌+◌, ◌-◌, ◌≤◌, ◌<◌}
use mathlib.Core.Path.{◌≡◌, refl, sym, ap, ap₂, ◌∙◌}
use mathlib.Core.List.{List, [], ◌∷◌, ◌++◌, append_assoc, append-nil}
use native.Mathlib.Omega.{arith}
use lib.ListN.{length, take, drop, length-drop}
use lib.Seq.{take_all, drop-length}
use lib.Dec.{eqb}
use borrow.Author.Tests.{eqb-true, eqb-false}
use Rattle.laws.proofs.Tests.{either}
use Rattle.utils.proofs.BytesLaws.{Bytes}
use Rattle.def_wire.specs.Bytes.{be32, four}
use Rattle.def_wire.specs.Block.{type_of, block_length, kind_of}
use Rattle.def_portions.specs.declared.Event.{Event}
use Rattle.def_portions.specs.Events.{Course, then, block_fault, block_events, lost_fault, block_then}
use Rattle.states.specs.declared.Known.{Known}
use Rattle.states.specs.declared.Portions.{Portions}
use Rattle.states.specs.Steps.{state, block, known, hold, next_block, opened, opened_by, in_block, passed, end_in, next}
use Rattle.states.specs.Steps.{fault_of, after, shows}
use Rattle.states.proofs.RunLaws.{shows-append}
use Rattle.followed.specs.Run.{run_of, opening}
use Rattle.followed.proofs.ItemRun.{item-behind}
use Rattle.followed.proofs.BehindRun.{bare, ending-done}
use Rattle.followed.proofs.ValueLaws.{by_first, held_low, four-held, bytes_take, bytes_drop}
use Rattle.followed.proofs.LostLaws.{whole-then}
use Rattle.followed.proofs.CheckLaws.{good-block}
use Rattle.followed.proofs.RangedRun.{header}
use Rattle.followed.proofs.BlockRun.{back, fault-held, block_run}
use Rattle.followed.proofs.InnerLaws.{Inner, Onward, onward, kind-onward, item-onward}
use Rattle.followed.proofs.TakenLaws.{next-open, next-complete, fine-behind}

-- n bytes of a block are to come; where none are, the next block begins, or the end
data Within (announced behind n : ℕ) (st : Portions) : Type 0 where
  inside : 0 < st.missing → st.rest + st.missing ≡ n → st.behind ≡ behind → st.known.announced ≡ announced
      → Inner st.item st.rest → Within announced behind n st
  past : n ≡ 0 → st ≡ next_block (known announced 0 0 0 0) behind → Within announced behind n st

module _ {announced behind : ℕ} where
  within-onward : (n rest left : ℕ) (st : Portions) → rest ≡ n → left ≡ behind → Onward announced rest left st
      → Within announced behind n st
  unfolding opened next_block
  within-onward n rest left st r p (onward k item size e b i) =
      rw i
      (either (eqb rest 0)
      (λ t. let z : rest ≡ 0 = eqb-true _ _ t in rw t (past (omega arith) (rw (e, p))))
      (λ f. let z : rest ≡ 0 → ⊥ = eqb-false _ _ f in
      let c = b (omega arith) in
      rw f (inside c.some (omega (arith, c.fits)) p e c.shape)))

  -- one byte of it, where the bytes behind show no refusal
  within-next : (n b : ℕ) (st : Portions) → 0 < st.missing → st.rest + st.missing ≡ suc n → st.behind ≡ behind
      → st.known.announced ≡ announced → Inner st.item st.rest → (x : List ℕ)
      → fault_of (after (next st b) x) ≡ Ok tt → Within announced behind n (next st b)
  within-next n b st h m p e o x g =
      either (eqb (st.missing - 1) 0)
      (λ t. let z : st.missing - 1 ≡ 0 = eqb-true _ _ t in
      let r : st.rest ≡ n = omega arith in
      let q = next-complete st b h z in
      rw (q, fine-behind (hold st b) z x (rw q at g))
      (within-onward n st.rest st.behind (passed (hold st b)) r p (item-onward (hold st b) e o)))
      (λ f. let z : st.missing - 1 ≡ 0 → ⊥ = eqb-false _ _ f in
      let l : 0 < st.missing - 1 = omega arith in
      rw (next-open st b h l) (inside l (omega arith) p e o))

  -- all of them
  within-after : (x y : List ℕ) (st : Portions) → Within announced behind (length x) st → fault_of (after st x) ≡ Ok tt
      → after st (x ++ y) ≡ after (next_block (known announced 0 0 0 0) behind) y
  unfolding after
  within-after [] y st (inside h m p e o) g = absurd (omega arith)
  within-after [] y st (past z i) g = rw i
  within-after (b ∷ x) y st (inside h m p e o) g =
      within-after x y (next st b) (within-next (length x) b st h m p e o x g) g
  within-after (b ∷ x) y st (past z i) g = absurd (omega arith)

-- a block that begins, and the end, show no refusal
next-fine : (k : Known) (behind : ℕ) → fault_of (next_block k behind) ≡ Ok tt
unfolding next_block fault_of
next-fine k behind = either (eqb behind 0) (λ t. rw t) (λ f. rw f)

-- the state behind a block
module _ (k : Known) (behind : ℕ) where
  -- behind its first four bytes, as a number and as a list
  abbrev begun : ℕ → List ℕ → Portions
  begun w v =
      let n = block_length v - 4 in opened_by (kind_of (type_of v)) (known k.announced w 0 0 0) n (behind - n)

  after-four : (a b c d : ℕ) (x y : List ℕ) → let v = a ∷ b ∷ c ∷ d ∷ x in
      Bytes v → length v ≡ block_length v → block_fault (behind + 4) v ≡ Ok tt
      → fault_of (after (state block 4 0 0 behind k) v) ≡ Ok tt
      → after (state block 4 0 0 behind k) (v ++ y) ≡ after (next_block (bare k) (behind - (length v - 4))) y
  unfolding passed in_block block_fault
  after-four a b c d x y u l f g =
      let v = a ∷ b ∷ c ∷ d ∷ x in
      let hd = header a b c d in
      let z = bytes_take 4 v u in
      let n : block_length hd - 4 ≡ length x = omega arith in
      let m : behind - (block_length hd - 4) ≡ behind - (length v - 4) = omega arith in
      let o = kind-onward (kind_of a) (known k.announced (be32 hd 0) 0 0 0) (block_length hd)
      (behind - (block_length hd - 4)) refl (good-block (behind + 4) hd f).rule (omega arith) (omega arith) in
      let behind_four : (t : List ℕ) → after (state block 4 0 0 behind k) (hd ++ t) ≡ after (begun (be32 hd 0) hd) t =
      λ t. item-behind block 4 0 behind k hd t (omega arith) refl
      (fault-held k behind a b c d z x (bytes_drop 4 v u) ∙ f)
      ∙ ap₂ (λ (w : ℕ) (s : List ℕ). after (begun w s) t) (held_low block refl hd refl z)
      (back k behind a b c d z x (bytes_drop 4 v u)) in
      behind_four (x ++ y)
      ∙ within-after x y (begun (be32 hd 0) hd) (within-onward (length x) _ _ (begun (be32 hd 0) hd) n m o)
      (sym (ap fault_of (behind_four x)) ∙ g)

  module _ (v : List ℕ) (u : Bytes v) (l : length v ≡ block_length v) (f : block_fault (behind + 4) v ≡ Ok tt)
      (clear : lost_fault (kind_of (type_of v)) v ≡ Ok tt) where
    abbrev next_one : Portions
    next_one = next_block k (behind - (length v - 4))

    -- what it shows
    run_alone : run_of (state block 4 0 0 behind k) v ≡ then (block_events v) (opening next_one [])
    unfolding next_block
    run_alone =
        let n = block_length v - 4 in
        let e : n ≡ length (drop 4 v) = omega (arith, length-drop 4 v) in
        let m : behind - n ≡ behind - (length v - 4) = omega arith in
        let t : take (block_length v) v ≡ v = take_all (block_length v) v (omega arith) in
        let q : drop n (drop 4 v) ≡ [] = ap (λ (i : ℕ). drop i (drop 4 v)) e ∙ drop-length (drop 4 v) in
        block_run k behind v (omega arith) u (Ok tt) f
        ∙ ap₂ block_then t
        (ending-done k.announced n (behind - n) (drop 4 v) (omega arith)
        ∙ ap₂ (λ (i : ℕ) (s : List ℕ). opening (next_block k i) s) m q)
        ∙ whole-then v (opening next_one []) (kind_of (type_of v)) (omega arith) clear

    fine-alone : fault_of (after (state block 4 0 0 behind k) v) ≡ Ok tt
    unfolding run_of opening after
    fine-alone = ap (λ (c : Course). c.fault) run_alone ∙ next-fine k (behind - (length v - 4))

    after_block : (y : List ℕ) → after (state block 4 0 0 behind k) (v ++ y) ≡ after next_one y
    unfolding next_block
    after_block y =
        by_first (λ s. Bytes s → length s ≡ block_length s → block_fault (behind + 4) s ≡ Ok tt
        → fault_of (after (state block 4 0 0 behind k) s) ≡ Ok tt
        → after (state block 4 0 0 behind k) (s ++ y) ≡ after (next_block (bare k) (behind - (length s - 4))) y)
        (λ a b c d x. after-four a b c d x y) v (omega arith) u l f fine-alone

    after-alone : after (state block 4 0 0 behind k) v ≡ next_one
    unfolding after
    after-alone = ap (after (state block 4 0 0 behind k)) (sym (append-nil v)) ∙ after_block []

    shows-alone : shows (state block 4 0 0 behind k) v ≡ block_events v ++ end_in next_one
    unfolding run_of opening shows
    shows-alone =
        ap (λ (c : Course). c.events) run_alone
        ∙ ap (λ (es : List Event). block_events v ++ es) (append-nil (end_in next_one))

    shows-block : (y : List ℕ)
        → shows (state block 4 0 0 behind k) (v ++ y) ≡ block_events v ++ (end_in next_one ++ shows next_one y)
    shows-block y =
        shows-append (state block 4 0 0 behind k) v y
        ∙ (rw (shows-alone, after-alone) (append_assoc (block_events v) (end_in next_one) (shows next_one y)))

pub block-after : (k : Known) (behind : ℕ) (v y : List ℕ) → Bytes v → length v ≡ block_length v
    → block_fault (behind + 4) v ≡ Ok tt → lost_fault (kind_of (type_of v)) v ≡ Ok tt
    → after (state block 4 0 0 behind k) (v ++ y) ≡ after (next_block k (behind - (length v - 4))) y
block-after k behind v y u l f c = after_block k behind v u l f c y

pub block-shows : (k : Known) (behind : ℕ) (v y : List ℕ) → Bytes v → length v ≡ block_length v
    → block_fault (behind + 4) v ≡ Ok tt → lost_fault (kind_of (type_of v)) v ≡ Ok tt
    → let st = next_block k (behind - (length v - 4)) in
    shows (state block 4 0 0 behind k) (v ++ y) ≡ block_events v ++ (end_in st ++ shows st y)
block-shows k behind v y u l f c = shows-block k behind v u l f c y

-- its first four bytes say what it says
pub fault-four : (left : ℕ) (v : List ℕ) → Bytes v → 4 ≤ length v
    → block_fault left (four (be32 v 0)) ≡ block_fault left v
unfolding block_fault
fault-four left v u h =
    by_first (λ s. Bytes s → block_fault left (four (be32 s 0)) ≡ block_fault left s)
    (λ a b c d x z. ap (block_fault left) (four-held (header a b c d) refl (bytes_take 4 (a ∷ b ∷ c ∷ d ∷ x) z))) v h u

pub length-four : (v : List ℕ) → Bytes v → 4 ≤ length v → block_length (four (be32 v 0)) ≡ block_length v
length-four v u h =
    by_first (λ s. Bytes s → block_length (four (be32 s 0)) ≡ block_length s)
    (λ a b c d x z. ap block_length (four-held (header a b c d) refl (bytes_take 4 (a ∷ b ∷ c ∷ d ∷ x) z))) v h u
