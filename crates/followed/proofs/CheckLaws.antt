-- Checks that are fine. Assumes nothing.
--     both-fine, need-fine, rule-fine     what holds then
--     head-least, past-within             of a header, and of the bytes in all
--     Good, good-block                    of a block's first four bytes
use Rattle.std.specs.Prelude.{Ok, Err}
use Prim.Native.Nat.{ℕ, ◌≤◌}
use mathlib.Core.Path.{◌≡◌, refl}
use mathlib.Core.Bool.{Bool, true, false}
use mathlib.Core.List.{List}
use native.Mathlib.Omega.{arith}
use lib.ListN.{length}
use lib.Dec.{leb}
use borrow.Author.Tests.{leb-true, le-ltb}
use Rattle.def_refusals.specs.declared.Refusal.{Refusal}
use Rattle.def_refusals.specs.declared.Refusal.TheVariants.{PastEnd}
use Rattle.def_refusals.specs.Answers.{then_check, Or}
use Rattle.def_wire.specs.Packet.{announced_of}
use Rattle.def_wire.specs.Block.{type_of, block_length, kind_of, rule}
use Rattle.def_portions.specs.Events.{need, rule_of, head_fault, block_fault}
use Rattle.def_portions.specs.Calls.{past_fault}

-- a check that is fine, in two parts
pub both-fine : (x y : Or (Unit {0})) → then_check x y ≡ Ok tt → (x ≡ Ok tt) × (y ≡ Ok tt)
both-fine (Ok _) y e = (refl, e)
both-fine (Err r) y e = let z : ◌≡◌ {A = ℕ} 0 1 = cc in absurd (omega arith)

pub need-fine : (t : Bool) (r : Refusal) → need t r ≡ Ok tt → t ≡ true
need-fine true r e = refl
need-fine false r e = let z : ◌≡◌ {A = ℕ} 0 1 = cc in absurd (omega arith)

pub rule-fine : (t : Bool) (x y : ℕ) → rule t x y ≡ Ok tt → t ≡ true
rule-fine true x y e = refl
rule-fine false x y e = let z : ◌≡◌ {A = ℕ} 0 1 = cc in absurd (omega arith)

-- a good header announces at least eight bytes
pub head-least : (s : List ℕ) → head_fault s ≡ Ok tt → 8 ≤ announced_of s
unfolding head_fault
head-least s e = leb-true 8 (announced_of s) (need-fine _ _ (both-fine (need (leb 8 (announced_of s)) _) _ e).0)

-- 19 does not apply: no byte is past the announced length
pub past-within : (s : List ℕ) → 4 ≤ length s → head_fault s ≡ Ok tt → past_fault s ≡ Ok tt → length s ≤ announced_of s
unfolding past_fault
past-within s h f p =
    let q : need (leb (length s) (announced_of s)) (PastEnd (announced_of s) (length s)) ≡ (Ok tt) =
    rw (le-ltb (length s) 4 h, f) at p in
    leb-true _ _ (need-fine _ _ q)

-- a good block's length fits, and its rule holds
pub record Good (left : ℕ) (v : List ℕ) : Type 0 where
  pub fits : block_length v ≤ left
  pub rule : rule_of (kind_of (type_of v)) (block_length v) ≡ Ok tt

pub good-block : (left : ℕ) (v : List ℕ) → block_fault left v ≡ Ok tt → Good left v
unfolding block_fault
good-block left v e =
    let p = both-fine (need (leb (block_length v) left) _) (rule_of (kind_of (type_of v)) (block_length v)) e in
    record { fits = leb-true _ _ (need-fine _ _ p.0); rule = p.1 }
