-- A reply that is told, and one that is cut; what a payload has to begin with.
use Prim.Native.Nat.{ℕ, ◌≤◌, ◌<◌}
use mathlib.Core.Path.{◌≡◌}
use mathlib.Core.Bool.{true, false}
use mathlib.Core.List.{List}
use lib.ListN.{length, drop, take, length-drop}
use lib.Seq.{take_all}
use lib.Dec.{leb}
use native.Mathlib.Omega.{arith}
use borrow.Author.Tests.{le-leb, lt-leb}
use Rattle.laws.proofs.Tests.{either, true≢false}
use Rattle.def_wire.specs.Bytes.{byte_at}
use Rattle.def_text.specs.Buffer.{Added}
use Rattle.def_probe.specs.Requests.{Reply, told, cut, at_least, at_most}
use Rattle.print.proofs.AddedLaws.{nothing}
use Rattle.probe.specs.declared.Told.{Told}
use Rattle.probe.specs.Replied.{Replied, begins_well}

pub replies : {l l' : List ℕ} {at : ℕ} {a b : Reply} {r : Told} → a ≡ b → Replied l at a l' r → Replied l at b l' r
replies e p = rw (← e) p

pub is-told : {l l' text : List ℕ} {at n : ℕ} {r : Told} → Added l at text l' n → (r.at ≡ n) × (r.served ≡ true)
    → Replied l at (told text) l' r
is-told p e = record { text = rw e.0 p; served = e.1 }

pub is_cut : {l : List ℕ} {at : ℕ} {r : Told} → (r.at ≡ at) × (r.served ≡ false) → Replied l at cut l r
is_cut e = record { text = rw e.0 nothing; served = e.1 }

pub all-behind : (p : List ℕ) (at : ℕ) → take (length p) (drop at p) ≡ drop at p
all-behind p at = take_all (length p) (drop at p) (rw length-drop (omega arith))

module _ (n : ℕ) (p : List ℕ) (reply : Reply) where
  pub long-enough : n ≤ length p → reply ≡ at_least n p reply
  long-enough h = rw (le-leb _ _ h)

  pub too_short : length p < n → cut ≡ at_least n p reply
  too_short h = rw (lt-leb _ _ h)

  pub begun : begins_well n p ≡ true → reply ≡ at_least n p (at_most 1 (byte_at p 0) reply)
  begun e =
      either (leb n (length p)) (λ t. let u : leb (byte_at p 0) 1 ≡ true = rw t at e in rw (t, u))
      (λ t. true≢false (rw t at e))

  pub not-begun : begins_well n p ≡ false → cut ≡ at_least n p (at_most 1 (byte_at p 0) reply)
  not-begun e =
      either (leb n (length p)) (λ t. let u : leb (byte_at p 0) 1 ≡ false = rw t at e in rw (t, u)) (λ t. rw t)

-- how `begins` comes to it
module _ (n : ℕ) (p : List ℕ) where
  pub begins-short : length p < n → false ≡ begins_well n p
  begins-short h = rw (lt-leb _ _ h)

  pub begins-byte : (b : ℕ) → n ≤ length p → b ≡ byte_at p 0 → leb b 1 ≡ begins_well n p
  begins-byte b h e = rw (le-leb _ _ h, e)
