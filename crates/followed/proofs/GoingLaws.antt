-- The bytes that a state still asks for are those of the packet that have not come. Assumes nothing of the bytes.
--     Item          what an item leaves of its block
--     Counts        n bytes of the packet have come, and an item is at hand
--     Going         the same of a state that was not refused: it asks for bytes, or the packet has ended
--     passed-by     it is so behind a complete item that shows no refusal
use Rattle.std.specs.Prelude.{Ok}
use Prim.Native.Nat.{ℕ, ◌+◌, ◌-◌, ◌%◌, ◌<◌}
use mathlib.Core.Path.{◌≡◌, refl}
use native.Mathlib.Omega.{arith}
use lib.Dec.{eqb}
use borrow.Author.Tests.{eqb-true, eqb-false}
use Rattle.laws.proofs.Tests.{either}
use Rattle.def_wire.specs.Bytes.{four}
use Rattle.def_wire.specs.Block.{type_of, block_length, kind_of}
use Rattle.states.specs.declared.Known.{Known}
use Rattle.states.specs.declared.Portions.{Portions}
use Rattle.states.specs.Steps.{sender, block, over, known}
use Rattle.states.specs.Steps.{low32, item_fault, next_block, opened, in_block, passed}
use Rattle.followed.proofs.CheckLaws.{good-block}
use Rattle.followed.proofs.InnerLaws.{Inner, Onward, onward, kind-onward, item-onward}

-- what an item leaves of its block: behind the SSRC, and behind a block's first four bytes, nothing
pub data Item (item rest : ℕ) : Type 0 where
  at-sender : item ≡ sender → rest ≡ 0 → Item item rest
  at_block : item ≡ block → rest ≡ 0 → Item item rest
  in-block : Inner item rest → Item item rest

-- n bytes of a packet have come, and an item is at hand that may be complete
pub record Counts (announced n : ℕ) (st : Portions) : Type 0 where
  pub length : st.known.announced ≡ announced
  pub all : st.behind + st.rest + st.missing + n ≡ announced
  pub fours : st.behind % 4 ≡ 0
  pub shape : Item st.item st.rest

pub data Going (announced n : ℕ) (st : Portions) : Type 0 where
  asks : 0 < st.missing → Counts announced n st → Going announced n st
  ended : st.item ≡ over → st.known.announced ≡ announced → st.behind + st.rest + st.missing ≡ 0
      → n ≡ announced → Going announced n st

module _ (announced n : ℕ) where
  going_next : (k : Known) (behind : ℕ) → k.announced ≡ announced → behind + n ≡ announced → behind % 4 ≡ 0
      → Going announced n (next_block k behind)
  unfolding next_block
  going_next k behind e a m =
      either (eqb behind 0)
      (λ t. let z : behind ≡ 0 = eqb-true _ _ t in rw t (ended refl e refl (omega arith)))
      (λ f. let z : behind ≡ 0 → ⊥ = eqb-false _ _ f in
      rw f (asks (omega arith)
      (record { length = e; all = omega arith; fours = omega arith; shape = at_block refl refl })))

  going-onward : (rest behind : ℕ) (st : Portions) → behind + rest + n ≡ announced → behind % 4 ≡ 0
      → Onward announced rest behind st → Going announced n st
  unfolding opened
  going-onward rest behind st a m (onward k item size e b i) =
      rw i
      (either (eqb rest 0)
      (λ t. let z : rest ≡ 0 = eqb-true _ _ t in rw t (going_next k behind e (omega arith) m))
      (λ f. let z : rest ≡ 0 → ⊥ = eqb-false _ _ f in
      let c = b (omega arith) in
      rw f (asks c.some
      (record { length = e; all = omega (arith, c.fits); fours = m; shape = in-block c.shape }))))

  -- behind a complete item
  module _ (c : Portions) (g : Counts announced n c) (z : c.missing ≡ 0) (f : item_fault c ≡ Ok tt) where
    pub passed-by : Item c.item c.rest → Going announced n (passed c)
    unfolding passed in_block
    passed-by (at-sender i r) = rw i (going_next c.known c.behind g.length (omega (arith, g.all)) g.fours)
    passed-by (at_block i r) =
        let w = low32 c.held in
        let l = block_length (four w) in
        let b = good-block (c.behind + 4) (four w) (rw i at f) in
        let k = known c.known.announced w 0 0 0 in
        let left = c.behind - (l - 4) in
        rw i
        (going-onward (l - 4) left _ (omega (arith, g.all, b.fits)) (omega (arith, g.fours, b.fits))
        (kind-onward (kind_of (type_of (four w))) k l left g.length b.rule (omega arith) (omega arith)))
    passed-by (in-block o) =
        going-onward c.rest c.behind (passed c) (omega (arith, g.all)) g.fours
        (item-onward c g.length o)
