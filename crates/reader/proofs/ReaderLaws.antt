-- From `new` by k times `moved` the reader of an accepted packet stands at block k, and its view there is that block's.
--     place_after    where one stands after so many moves from the first block
--     Reached       a reader that `new` and then so many times `moved` may answer, by their contracts
use Rattle.std.specs.Prelude.{Ok}
use Prim.Native.Nat.{ℕ, zero, suc, ◌+◌, ◌≤◌, ◌<◌, min}
use mathlib.Core.Path.{◌≡◌, refl, sym, ap, ◌∙◌}
use mathlib.Core.List.{List}
use native.Mathlib.Numerals.{add-one}
use native.Mathlib.Omega.{arith}
use lib.ListN.{length}
use denote.Ref.{Bor}
use Rattle.def_wire.specs.declared.Reading.{Reading}
use Rattle.def_wire.specs.Packet.{length_at, place_of, count_of, size_at, locate, view_of, view_at, part_at}
use Rattle.def_wire.specs.Packet.{next_place, view_from, start_from}
use Rattle.xr.proofs.WalkLaws.{count-done, counted-within, place-zero, place-next, located-done}
use Rattle.reader.specs.declared.Reader.{Reader}
use Rattle.reader.proofs.PlacesLaws.{next-within}
use Rattle.reader.proofs.Held.{Stands, Shows}

abbrev pub place_after : List ℕ → ℕ → ℕ
place_after s zero = 8
place_after s (suc k) = next_place s (place_after s k)

abbrev pub Reached : Bor (List ℕ) → ℕ → Reader → Type 0
Reached s zero r = Stands s 8 r
Reached s (suc k) r = (d : Reader) × (Reached s k d × Stands d.packet (next_place d.packet.now d.at) r)

-- it holds the packet, at the place after so many moves
pub reached-stands : (s : Bor (List ℕ)) (k : ℕ) (r : Reader) → Reached s k r → Stands s (place_after s.now k) r
reached-stands s zero r h = h
reached-stands s (suc k) r (d, (h, e)) =
    let i = reached-stands s k d h in
    (e.0 ∙ i.0, e.1 ∙ ap (λ (x : Bor (List ℕ)). next_place x.now d.at) i.0 ∙ ap (next_place s.now) i.1)

module _ (g : Reading) (s : List ℕ) (n : ℕ) (counted : count_of g s ≡ Ok n) where
  fits : (k : ℕ) → k < n → place_of s k + length_at s (place_of s k) ≤ length s
  fits k h = counted-within g s n k (count-done g s n counted) h

  located : (k : ℕ) → k < n → Ok (place_of s k, size_at g s (place_of s k)) ≡ locate g s k
  located k h = let c = count-done g s n counted in located-done g s k c.stop n c.header c.walk h

  -- at a block, the next place is the next block's, or where the blocks end
  next_place_lem : (k : ℕ) → k < n → next_place s (place_of s k) ≡ place_of s (k + 1)
  next_place_lem k h =
      let l : place_of s k < length s = omega (arith, fits k h) in
      sym (next-within s (place_of s k) _ l refl) ∙ sym (place-next s k)

  -- after k moves one stands at block k, and after all of them where the blocks end
  pub place_after_lem : (k : ℕ) → k ≤ n → place_after s k ≡ place_of s k
  place_after_lem zero h = sym (place-zero s)
  place_after_lem (suc k) h =
      ap (next_place s) (place_after_lem k (omega arith)) ∙ next_place_lem k (omega arith) ∙ ap (place_of s) (add-one k)

  -- the view there is the block's: the same bytes, at the same place in memory
  pub view-shown : (k : ℕ) → k < n → Ok (view_from g s (place_of s k)) ≡ view_of g s k
  view-shown k h = ap (view_at s) (located k h)

  pub view-start : (p : ℕ × ℕ) (k : ℕ) → k < n → start_from p s (place_of s k) ≡ part_at p (locate g s k)
  view-start p k h =
      let e : min (place_of s k) (length s) ≡ place_of s k = omega (arith, fits k h) in
      rw e (ap (part_at p) (located k h))

-- the same of the readers and of what `view` answers
module _ (g : Reading) (s : Bor (List ℕ)) (n : ℕ) (counted : count_of g s.now ≡ Ok n)
    (k : ℕ) (r : Reader) (h : Reached s k r) where
  pub reached-place : k ≤ n → Stands s (place_of s.now k) r
  reached-place l = let i = reached-stands s k r h in (i.0, i.1 ∙ place_after_lem g s.now n counted k l)

  pub reached-view : (v : Bor (List ℕ)) → k < n → Shows g r.packet r.at v
      → (Ok v.now ≡ view_of g s.now k) × (v.ref_ptr ≡ part_at s.ref_ptr (locate g s.now k))
  reached-view v l e =
      let i = reached-place (let a : k ≤ n = omega (arith, l) in a) in
      let f : Shows g s (place_of s.now k) v = rw (i.0, i.1) at e in
      (ap Ok f.0 ∙ view-shown g s.now n counted k l, f.1 ∙ view-start g s.now n counted s.ref_ptr k l)
