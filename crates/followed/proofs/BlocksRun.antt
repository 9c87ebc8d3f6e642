-- The blocks of a packet, as far as its bytes have come. Assumes bytes below 256.
--     blocks        the blocks from a place on
use Rattle.std.specs.Prelude.{Ok, Err}
use Prim.Native.Nat.{ℕ, zero, suc, ◌+◌, ◌*◌, ◌-◌, ◌%◌, ◌≤◌, ◌<◌}
use mathlib.Core.Path.{◌≡◌, refl, sym, ap, ◌∙◌}
use mathlib.Core.List.{List}
use native.Mathlib.Omega.{arith}
use lib.ListN.{length, take, drop, length-drop}
use lib.Seq.{drop-drop}
use lib.Dec.{ltb, eqb}
use borrow.Author.Tests.{ltb-true, ltb-false, lt-ltb, le-ltb, le-leb, lt-leb, eqb-true, eqb-false}
use Rattle.def_refusals.specs.Answers.{Or}
use Rattle.laws.proofs.Tests.{either}
use Rattle.utils.proofs.BytesLaws.{Bytes, be16-same, same_drop}
use Rattle.def_wire.specs.Packet.{length_at, part}
use Rattle.def_wire.specs.Block.{block_length}
use Rattle.def_portions.specs.Events.{quiet, unless, block_fault, block_then, blocks_from}
use Rattle.states.specs.declared.Known.{Known}
use Rattle.states.specs.Steps.{state, block, next_block}
use Rattle.followed.specs.Run.{run_of, opening, ending}
use Rattle.followed.proofs.ItemRun.{item-open}
use Rattle.followed.proofs.BehindRun.{bare, next-over, next-block, ending-open, ending-done}
use Rattle.followed.proofs.ValueLaws.{bytes_drop}
use Rattle.followed.proofs.CheckLaws.{Good, good-block}
use Rattle.followed.proofs.BlockRun.{block_run}

-- the same bytes are the same length
pub length-at : (s : List ℕ) (at : ℕ) → length_at s at ≡ block_length (drop at s)
length-at s at = ap (λ (n : ℕ). (n + 1) * 4) (sym (be16-same (drop at s) 2 s (at + 2) (same_drop 2 at s 2)))

-- behind the bytes that have come nothing is shown
blocks-quiet : (s : List ℕ) (stop fuel at : ℕ) → length s < at → blocks_from s stop fuel at ≡ quiet
unfolding blocks_from
blocks-quiet s stop zero at h = refl
blocks-quiet s stop (suc fuel) at h = rw (lt-ltb _ _ h)

module _ (s : List ℕ) (y : Bytes s) (stop : ℕ) (within : length s ≤ stop) where
  -- from a place on, with so much fuel
  abbrev From : ℕ → Type 0
  From fuel =
      (at behind : ℕ) (k : Known) → at + behind ≡ stop → behind % 4 ≡ 0 → at ≤ length s → length s < at + fuel
      → opening (next_block k behind) (drop at s) ≡ blocks_from s stop fuel at

  -- a block whose first four bytes have come, and those behind it
  module _ (fuel at behind : ℕ) (k : Known) (e : at + behind ≡ stop) (m : behind % 4 ≡ 0) (h : at + 4 ≤ length s)
      (l : length s < at + suc fuel) (further : From fuel) where
    abbrev v : List ℕ
    v = drop at s

    abbrev n : ℕ
    n = block_length v - 4

    tail : Good behind v
        → ending k.announced n (behind - 4 - n) (drop 4 v) ≡ blocks_from s stop fuel (at + block_length v)
    tail g =
        let p : 4 ≤ block_length v = omega arith in
        let r : behind - 4 - n ≡ behind - block_length v = omega arith in
        let z : at + 4 + n ≡ at + block_length v = omega arith in
        let w : length (drop 4 v) ≡ length s - at - 4 =
        length-drop 4 v ∙ ap (λ (i : ℕ). i - 4) (length-drop at s) in
        let q : drop n (drop 4 v) ≡ drop (at + block_length v) s =
        ap (drop n) (drop-drop 4 at s) ∙ drop-drop n (at + 4) s ∙ ap (λ (i : ℕ). drop i s) z in
        either (ltb (length s) (at + block_length v))
        (λ t. let u : length s < at + block_length v = ltb-true _ _ t in
        ending-open k.announced n (behind - 4 - n) (drop 4 v) (omega arith)
        ∙ sym (blocks-quiet s stop fuel (at + block_length v) u))
        (λ t. let u : at + block_length v ≤ length s = ltb-false _ _ t in
        ending-done k.announced n (behind - 4 - n) (drop 4 v) (omega arith)
        ∙ (rw (q, r)
        (further (at + block_length v) (behind - block_length v) (bare k) (omega (arith, g.fits))
        (omega (arith, g.fits)) u (omega arith))))

    block_at : (f : Or (Unit {0})) → block_fault behind v ≡ f
        → run_of (state block 4 0 0 (behind - 4) k) v
        ≡ unless f (block_then (part s at (length_at s at)) (blocks_from s stop fuel (at + length_at s at)))
    block_at f c =
        let x : 4 ≤ length v = omega (arith, length-drop at s) in
        let z : behind - 4 + 4 ≡ behind = omega arith in
        rw (length-at s at)
        (block_run k (behind - 4) v x (bytes_drop at s y) f (rw z c) ∙ rest f c)
      where
        rest : (f : Or (Unit {0})) → block_fault behind v ≡ f
            → unless f (block_then (take (block_length v) v) (ending k.announced n (behind - 4 - n) (drop 4 v)))
            ≡ unless f (block_then (take (block_length v) v) (blocks_from s stop fuel (at + block_length v)))
        rest (Ok _) c = ap (block_then (take (block_length v) v)) (tail (good-block behind v c))
        rest (Err r) c = refl

  pub blocks : (fuel : ℕ) → From fuel
  unfolding blocks_from
  blocks zero at behind k e m l h = absurd (omega arith)
  blocks (suc fuel) at behind k e m l h =
      rw (le-ltb (length s) at l)
      (either (eqb behind 0)
      (λ t. let z : behind ≡ 0 = eqb-true _ _ t in
      rw (le-leb stop at (omega arith)) (next-over k behind (drop at s) z))
      (λ f. let z : behind ≡ 0 → ⊥ = eqb-false _ _ f in
      let p : at < stop = omega arith in
      let q : stop - at ≡ behind = omega arith in
      rw (lt-leb stop at p, q)
      (next-block k behind (drop at s) (omega arith)
      ∙ either (ltb (length s) (at + 4))
      (λ t. let u : length s < at + 4 = ltb-true _ _ t in
      rw t (item-open block 4 0 (behind - 4) (bare k) (drop at s) (omega (arith, length-drop at s))))
      (λ g. let u : at + 4 ≤ length s = ltb-false _ _ g in
      rw g (block_at fuel at behind (bare k) e m u h (blocks fuel) (block_fault behind (drop at s)) refl)))))
