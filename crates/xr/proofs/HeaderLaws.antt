-- The laws of `header_of`: each way in which it ends, with the tests that lead there as premises.
use Rattle.std.specs.Prelude.{Ok, Err}
use Prim.Native.Nat.{ℕ, ◌-◌, ◌/◌, ◌%◌, ◌≤◌, ◌<◌}
use mathlib.Core.Path.{◌≡◌, refl, sym}
use mathlib.Core.Bool.{Bool, true, false, cond, not, ◌||◌}
use mathlib.Core.List.{List}
use native.Mathlib.Omega.{arith}
use lib.ListN.{length}
use lib.Dec.{ltb, eqb}
use borrow.Author.Tests.{lt-ltb, le-ltb, eq-eqb, ne_eqb, ltb-false, eqb-true, not-false}
use Rattle.def_refusals.specs.Answers.{Or}
use Rattle.laws.proofs.Tests.{by-test, true≢false}
use Rattle.def_refusals.specs.declared.Refusal.{Refusal}
use Rattle.def_refusals.specs.declared.Refusal.TheVariants.{TooShort, WrongVersion, WrongPacketType, WrongLength}
use Rattle.def_refusals.specs.declared.Refusal.TheVariants.{BadPadding}
use Rattle.def_wire.specs.declared.Reading.{Reading}
use Rattle.def_wire.specs.declared.Reading.TheVariants.{Standard, Crate}
use Rattle.def_wire.specs.Bytes.{byte_at}
use Rattle.def_wire.specs.Packet.{version_of, is_padded, announced_of, padding_of, is_bad_padding, least_of, stop_of, header_of}

-- a packet has at least 8 bytes in either reading
pub least-ge : (r : Reading) → 8 ≤ least_of r
least-ge Standard = omega arith
least-ge Crate = omega arith

module _ (r : Reading) (s : List ℕ) where
  pub header-short : length s < least_of r → Err (TooShort (least_of r) (length s)) ≡ header_of r s
  unfolding header_of
  header-short h = rw (lt-ltb _ _ h)

  module _ (long : least_of r ≤ length s) where
    pub header-version : (version_of s ≡ 2 → ⊥) → Err WrongVersion ≡ header_of r s
    unfolding header_of
    header-version v = rw (le-ltb _ _ long, ne_eqb _ _ v)

    module _ (v : version_of s ≡ 2) where
      pub header-type : (byte_at s 1 ≡ 207 → ⊥) → Err WrongPacketType ≡ header_of r s
      unfolding header_of
      header-type t = rw (le-ltb _ _ long, eq-eqb _ _ v, ne_eqb _ _ t)

      module _ (t : byte_at s 1 ≡ 207) where
        pub header-length : (announced_of s ≡ length s → ⊥) → Err (WrongLength (announced_of s) (length s))
            ≡ header_of r s
        unfolding header_of
        header-length l = rw (le-ltb _ _ long, eq-eqb _ _ v, eq-eqb _ _ t, ne_eqb _ _ l)

        module _ (l : announced_of s ≡ length s) where
          pub header-padding : (byte_at s 0 / 32 % 2 ≡ 1) → is_bad_padding (padding_of s) (length s) ≡ true
              → Err (BadPadding (padding_of s)) ≡ header_of r s
          unfolding header_of
          header-padding p b = rw (le-ltb _ _ long, eq-eqb _ _ v, eq-eqb _ _ t, eq-eqb _ _ l, eq-eqb _ _ p, b)

          pub header-padded : (byte_at s 0 / 32 % 2 ≡ 1) → is_bad_padding (padding_of s) (length s) ≡ false
              → Ok (stop_of r s) ≡ header_of r s
          unfolding header_of
          header-padded p b = rw (le-ltb _ _ long, eq-eqb _ _ v, eq-eqb _ _ t, eq-eqb _ _ l, eq-eqb _ _ p, b)

          pub header-plain : (byte_at s 0 / 32 % 2 ≡ 1 → ⊥) → Ok (stop_of r s) ≡ header_of r s
          unfolding header_of
          header-plain p = rw (le-ltb _ _ long, eq-eqb _ _ v, eq-eqb _ _ t, eq-eqb _ _ l, ne_eqb _ _ p)

-- where the blocks end
pub stop-plain : (r : Reading) (s : List ℕ) → (byte_at s 0 / 32 % 2 ≡ 1 → ⊥) → stop_of r s ≡ length s
stop-plain Standard s p = rw (ne_eqb _ _ p)
stop-plain Crate s p = refl

pub stop-standard : (r : Reading) (s : List ℕ) (n : ℕ) → r ≡ Standard → n ≡ padding_of s → byte_at s 0 / 32 % 2 ≡ 1
    → length s - n ≡ stop_of r s
stop-standard r s n e k p = rw (e, k, eq-eqb _ _ p)

pub stop-crate : (r : Reading) (s : List ℕ) → r ≡ Crate → length s ≡ stop_of r s
stop-crate r s e = rw e

or-false : (a b : Bool) → (a || b) ≡ false → (a ≡ false) × (b ≡ false)
or-false true b e = true≢false (sym e)
or-false false b e = (refl, e)

-- padding that is not refused
pub good-padding : (n len : ℕ) → is_bad_padding n len ≡ false → (n % 4 ≡ 0) × (n ≤ len - 8)
good-padding n len e =
    let p = or-false (eqb n 0) (not (eqb (n % 4) 0) || ltb (len - 8) n) e in
    let q = or-false (not (eqb (n % 4) 0)) (ltb (len - 8) n) p.1 in
    (eqb-true _ _ (not-false _ q.0), ltb-false _ _ q.1)

-- an accepted header: the blocks end within the packet, at a whole word
pub record Fine (s : List ℕ) (stop : ℕ) : Type 0 where
  pub within : stop ≤ length s
  pub whole : stop % 4 ≡ 0
  pub least : 8 ≤ stop

no : {P : Type 0} {x : Refusal} {n : ℕ} → ◌≡◌ {A = Or ℕ} (Err x) (Ok n) → P
no {x = x} {n = n} e = let z : ◌≡◌ {A = ℕ} 0 1 = cc in absurd (omega arith)

done-eq : {m n : ℕ} → ◌≡◌ {A = Or ℕ} (Ok m) (Ok n) → m ≡ n
done-eq e = cc

fine-stop : (r : Reading) (s : List ℕ) → 8 ≤ length s → announced_of s ≡ length s
    → cond (is_padded s) (is_bad_padding (padding_of s) (length s)) false ≡ false → Fine s (stop_of r s)
fine-stop Crate s h l b = record { within = omega arith; whole = omega (arith, l); least = h }
fine-stop Standard s h l b =
    by-test (is_padded s)
    (λ p g. let k = good-padding (padding_of s) (length s) g in
    rw p (record { within = omega arith; whole = omega (arith, l, k.0, k.1); least = omega (arith, k.1) }))
    (λ p g. rw p (record { within = omega arith; whole = omega (arith, l); least = h })) b

pub header-fine : (r : Reading) (s : List ℕ) (stop : ℕ) → header_of r s ≡ Ok stop → Fine s stop
unfolding header_of
header-fine r s stop =
    by-test (ltb (length s) (least_of r)) (λ _ e. no e)
    (λ h. by-test (not (eqb (version_of s) 2)) (λ _ e. no e)
    (λ _. by-test (not (eqb (byte_at s 1) 207)) (λ _ e. no e)
    (λ _. by-test (not (eqb (announced_of s) (length s))) (λ _ e. no e)
    (λ l. by-test (cond (is_padded s) (is_bad_padding (padding_of s) (length s)) false) (λ _ e. no e)
    (λ b e.
    let long : least_of r ≤ length s = ltb-false _ _ h in
    rw (done-eq e) at (fine-stop r s (omega (arith, least-ge r, long)) (eqb-true _ _ (not-false _ l)) b))))))
