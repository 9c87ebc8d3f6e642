-- The laws of the walk: its steps as a loop goes, and where the blocks that it counts lie.
use Rattle.std.specs.Prelude.{Ok, Err}
use Prim.Native.Nat.{ℕ, zero, suc, ◌+◌, ◌-◌, ◌≤◌, ◌<◌, min}
use mathlib.Core.Path.{◌≡◌, refl, ap}
use mathlib.Core.List.{List}
use native.Mathlib.Nat.{add-zero}
use native.Mathlib.Numerals.{add-one}
use native.Mathlib.Omega.{arith}
use lib.ListN.{length}
use lib.Dec.{ltb, leb, eqb}
use borrow.Author.Tests.{lt-ltb, le-ltb, le-leb, lt-leb, ltb-true, ltb-false, leb-false, eqb-true, eqb-false}
use Rattle.def_refusals.specs.Answers.{Or}
use Rattle.laws.proofs.Tests.{by-test, either}
use Rattle.def_refusals.specs.declared.Refusal.{Refusal}
use Rattle.def_refusals.specs.declared.Refusal.TheVariants.{BlockTooLong, NoBlock}
use Rattle.def_wire.specs.declared.Reading.{Reading}
use Rattle.def_wire.specs.declared.Reading.TheVariants.{Standard, Crate}
use Rattle.def_wire.specs.Packet.{header_of, length_at, place_of, walk_from, walk_to, count_of, size_at, pick_block, locate}
use Rattle.def_wire.specs.Packet.{part, view_of, part_at, bytes_at, start_from}
use Rattle.xr.specs.Walks.{found}
use Rattle.xr.proofs.HeaderLaws.{header-fine}

-- one turn of the walk at the place of block n, with fuel left
module _ (s : List ℕ) (stop at n : ℕ) where
  pub walk_end : (f : ℕ) → stop ≤ at → walk_from s stop f at n ≡ Ok n
  unfolding walk_from
  walk_end zero h = refl
  walk_end (suc f) h = rw (le-leb _ _ h)

  pub walk-next : (g f : ℕ) → g ≡ suc f → at < stop → length_at s at ≤ stop - at
      → walk_from s stop g at n ≡ walk_from s stop f (at + length_at s at) (n + 1)
  unfolding walk_from
  walk-next g f e h k = rw (e, lt-leb _ _ h, le-ltb _ _ k)

  pub walk-cut : (g f : ℕ) → g ≡ suc f → at < stop → stop - at < length_at s at
      → walk_from s stop g at n ≡ Err (BlockTooLong (length_at s at) (stop - at))
  unfolding walk_from
  walk-cut g f e h k = rw (e, lt-leb _ _ h, lt-ltb _ _ k)

-- the next block's place
pub place-next : (s : List ℕ) (n : ℕ) → place_of s (n + 1) ≡ place_of s n + length_at s (place_of s n)
unfolding place_of
place-next s n = rw add-one

pub no : {P : Type 0} {x : Refusal} {n : ℕ} → ◌≡◌ {A = Or ℕ} (Err x) (Ok n) → P
no {x = x} {n = n} e = let z : ◌≡◌ {A = ℕ} 0 1 = cc in absurd (omega arith)

pub done-eq : {m n : ℕ} → ◌≡◌ {A = Or ℕ} (Ok m) (Ok n) → m ≡ n
done-eq e = cc

-- a block that the walk counts ends within the blocks
pub walk-within : (s : List ℕ) (stop f m n k : ℕ) → walk_from s stop f (place_of s m) m ≡ Ok n → m ≤ k → k < n
    → place_of s k + length_at s (place_of s k) ≤ stop
unfolding walk_from
walk-within s stop zero m n k e h l = absurd (omega (arith, done-eq e))
walk-within s stop (suc f) m n k e h l =
    by-test (leb stop (place_of s m)) (λ _ d. absurd (omega (arith, done-eq d)))
    (λ o. by-test (ltb (stop - place_of s m) (length_at s (place_of s m))) (λ _ d. no d)
    (λ t d. either (eqb m k)
    (λ q. let i : m ≡ k = eqb-true _ _ q in
    let a : place_of s m < stop = leb-false _ _ o in
    let b : length_at s (place_of s m) ≤ stop - place_of s m = ltb-false _ _ t in
    rw (← i) (omega arith))
    (λ q. let i : m ≡ k → ⊥ = eqb-false _ _ q in
    walk-within s stop f (m + 1) n k (rw (place-next s m) d) (omega arith) l))) e

pub place-zero : (s : List ℕ) → place_of s 0 ≡ 8
unfolding place_of
place-zero s = refl

-- where a block lies after an accepted and after a refused header
module _ (r : Reading) (s : List ℕ) (k : ℕ) where
  pub located-done : (stop n : ℕ) → header_of r s ≡ Ok stop → walk_from s stop (length s) 8 0 ≡ Ok n → k < n
      → Ok (place_of s k, size_at r s (place_of s k)) ≡ locate r s k
  unfolding locate count_of
  located-done stop n h w l = rw (h, w, lt-ltb _ _ l)

  pub located-refused : (x : Refusal) → header_of r s ≡ Err x → Err x ≡ locate r s k
  unfolding locate count_of
  located-refused x h = rw h

-- among the blocks up to where the header says that they end
module _ (r : Reading) (s : List ℕ) (stop k : ℕ) where
  pub found-located : header_of r s ≡ Ok stop → found r s stop k ≡ locate r s k
  unfolding locate count_of
  found-located h = rw h

  pub found-done : (n : ℕ) → walk_from s stop (length s) 8 0 ≡ Ok n → k < n
      → Ok (place_of s k, size_at r s (place_of s k)) ≡ found r s stop k
  found-done n w l = rw (w, lt-ltb _ _ l)

  pub found_none : (n : ℕ) → walk_from s stop (length s) 8 0 ≡ Ok n → n ≤ k → Err (NoBlock n) ≡ found r s stop k
  found_none n w l = rw (w, le-ltb _ _ l)

  pub found-cut : (x : Refusal) → walk_from s stop (length s) 8 0 ≡ Err x → Err x ≡ found r s stop k
  found-cut x w = rw w

-- an accepted packet: its header is accepted, and its walk counts the blocks
pub record Counted (r : Reading) (s : List ℕ) (n : ℕ) : Type 0 where
  pub stop : ℕ
  pub header : header_of r s ≡ Ok stop
  pub walk : walk_from s stop (length s) 8 0 ≡ Ok n

counted-by : (r : Reading) (s : List ℕ) (n : ℕ) (h : Or ℕ) → header_of r s ≡ h → walk_to s h ≡ Ok n → Counted r s n
counted-by r s n (Ok stop) e w = record { stop = stop; header = e; walk = w }
counted-by r s n (Err x) e w = no w

pub count-done : (r : Reading) (s : List ℕ) (n : ℕ) → count_of r s ≡ Ok n → Counted r s n
unfolding count_of
count-done r s n e = counted-by r s n (header_of r s) refl e

-- a counted block ends within the packet, and has its four header bytes
pub counted-within : (r : Reading) (s : List ℕ) (n k : ℕ) → Counted r s n → k < n
    → place_of s k + length_at s (place_of s k) ≤ length s
counted-within r s n k c l =
    let f = header-fine r s c.stop c.header in
    omega (arith, f.within, walk-within s c.stop (length s) 0 n k (rw (place-zero s) c.walk) (omega arith) l)

-- a located view lies within the packet, and has at least four bytes
pub record Within (s : List ℕ) (at n : ℕ) : Type 0 where
  pub end : at + n ≤ length s
  pub four : 4 ≤ n

missing : {P : Type 0} {x : Refusal} {at n : ℕ} → ◌≡◌ {A = Or (ℕ × ℕ)} (Err x) (Ok (at, n)) → P
missing {x = x} {at = at} {n = n} e = let z : ◌≡◌ {A = ℕ} 0 1 = cc in absurd (omega arith)

sized : (r : Reading) (s : List ℕ) (p : ℕ) → p + length_at s p ≤ length s → Within s p (size_at r s p)
sized Standard s p h = record { end = h; four = omega arith }
sized Crate s p h = record { end = omega arith; four = omega arith }

at-eq : {a b m n : ℕ} → ◌≡◌ {A = Or (ℕ × ℕ)} (Ok (a, m)) (Ok (b, n)) → (a ≡ b) × (m ≡ n)
at-eq {a = a} {b = b} {m = m} {n = n} e =
    let q : ◌≡◌ {A = ℕ × ℕ} (a, m) (b, n) = cc in (ap {A = ℕ × ℕ} (λ p. p.0) q, ap {A = ℕ × ℕ} (λ p. p.1) q)

same-within : {s : List ℕ} {a b m n : ℕ} → a ≡ b → m ≡ n → Within s a m → Within s b n
same-within e k w = rw (← e, ← k) w

picked : (r : Reading) (s : List ℕ) (k at n : ℕ) (a : Or ℕ) → count_of r s ≡ a → pick_block r s k a ≡ Ok (at, n)
    → Within s at n
picked r s k at n (Err x) e p = missing p
picked r s k at n (Ok m) e p =
    by-test (ltb k m)
    (λ t q. let i = at-eq q in
    same-within i.0 i.1 (sized r s (place_of s k) (counted-within r s m k (count-done r s m e) (ltb-true _ _ t))))
    (λ _ q. missing q) p

pub located-within : (r : Reading) (s : List ℕ) (k at n : ℕ) → locate r s k ≡ Ok (at, n) → Within s at n
unfolding locate
located-within r s k at n e = picked r s k at n (count_of r s) refl e

-- the count after an accepted and after a refused header
pub count-walked : (r : Reading) (s : List ℕ) (stop : ℕ) → header_of r s ≡ Ok stop
    → walk_from s stop (length s) 8 0 ≡ count_of r s
unfolding count_of
count-walked r s stop h = rw h

pub count-refused : (r : Reading) (s : List ℕ) (x : Refusal) → header_of r s ≡ Err x → Err x ≡ count_of r s
unfolding count_of
count-refused r s x h = rw h

-- a view's size in each reading
pub size-standard : (r : Reading) (s : List ℕ) (p n : ℕ) → r ≡ Standard → n ≡ length_at s p
    → ◌≡◌ {A = Or (ℕ × ℕ)} (Ok (p, n)) (Ok (p, size_at r s p))
size-standard r s p n e k = rw (e, k)

pub size-crate : (r : Reading) (s : List ℕ) (p : ℕ) → r ≡ Crate → ◌≡◌ {A = Or (ℕ × ℕ)} (Ok (p, length s - p)) (Ok (p, size_at r s p))
size-crate r s p e = rw e

-- the part of a packet where a view lies
pub view-bytes : (s : List ℕ) (at n : ℕ) (l : Or (ℕ × ℕ)) → l ≡ Ok (at, n) → part s at n ≡ bytes_at s l
view-bytes s at n l e = rw e

pub view-start : (p : ℕ × ℕ) (s : List ℕ) (at n : ℕ) (l : Or (ℕ × ℕ)) → l ≡ Ok (at, n) → at ≤ length s
    → start_from p s at ≡ part_at p l
view-start p s at n l e h = let k : min at (length s) ≡ at = omega arith in rw (e, k)

pub view-none : (s : List ℕ) (l : Or (ℕ × ℕ)) (x : Refusal) → l ≡ Err x → part s 0 0 ≡ bytes_at s l
view-none s l x e = rw e

pub view-none-start : (p : ℕ × ℕ) (s : List ℕ) (l : Or (ℕ × ℕ)) (x : Refusal) → l ≡ Err x
    → start_from p s 0 ≡ part_at p l
view-none-start p s l x e = let k : min 0 (length s) ≡ 0 = omega arith in rw (e, k, add-zero)

-- the view of a block that was located, and of one that was not
pub view-shown : (r : Reading) (s : List ℕ) (k at n : ℕ) → locate r s k ≡ Ok (at, n) → view_of r s k ≡ Ok (part s at n)
view-shown r s k at n e = rw e

pub view-refused : (r : Reading) (s : List ℕ) (k : ℕ) (x : Refusal) → locate r s k ≡ Err x
    → view_of r s k ≡ Err x
view-refused r s k x e = rw e
