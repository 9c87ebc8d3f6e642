-- How many bytes a state has taken, and what it knows of the announced length. Assumes nothing of the bytes.
--     going          after any bytes, up to the announced length, that show no refusal, the state asks for the others
--     going-past     such a state has taken as many bytes as have come, and knows the length
use Rattle.std.specs.Prelude.{Ok, Err}
use Prim.Native.Nat.{ℕ, suc, ◌+◌, ◌-◌, ◌≤◌, ◌<◌}
use mathlib.Core.Path.{◌≡◌, refl, sym, ◌∙◌}
use mathlib.Core.Bool.{false}
use mathlib.Core.List.{List, [], ◌∷◌}
use native.Mathlib.Nat.{add-zero}
use native.Mathlib.Omega.{arith}
use lib.ListN.{length}
use lib.Dec.{eqb}
use borrow.Author.Tests.{eqb-true, eqb-false, eq-eqb}
use Rattle.def_refusals.specs.Answers.{Or}
use Rattle.laws.proofs.Tests.{either}
use Rattle.def_refusals.specs.declared.Refusal.{Refusal}
use Rattle.states.specs.declared.Portions.{Portions}
use Rattle.states.specs.Steps.{head, hold}
use Rattle.states.specs.Steps.{item_fault, fault_of, passed_on}
use Rattle.states.specs.Steps.{settled, next, after}
use Rattle.states.specs.Call.{announced_by, taken_in}
use Rattle.states.proofs.RunLaws.{after-closed}
use Rattle.followed.proofs.ItemRun.{not-zero}
use Rattle.followed.proofs.InnerLaws.{at_fields, at-word, at-time, at-whose, at-echo, at-clock, at-skipped}
use Rattle.followed.proofs.InnerLaws.{at-sums, at-hops}
use Rattle.followed.proofs.GoingLaws.{Item, at-sender, at_block, in-block, Counts, Going, asks, ended}
use Rattle.followed.proofs.GoingLaws.{passed-by}

-- one byte of an item that asks for it
held : {announced n : ℕ} (st : Portions) (b : ℕ) → 0 < st.missing → Counts announced n st
    → Counts announced (suc n) (hold st b)
held st b h g = record { length = g.length; all = omega (arith, g.all); fours = g.fours; shape = g.shape }

-- a complete item that shows a refusal takes no more, and keeps it
kept : (c : Portions) (r : Refusal) → c.missing ≡ 0 → item_fault c ≡ Err r → (bs : List ℕ)
    → fault_of (after c bs) ≡ Err r
unfolding fault_of
kept c r z f bs = rw (after-closed c z bs, z) f

-- behind it, where the bytes that follow show no refusal
settles : {announced n : ℕ} (c : Portions) → Counts announced n c → c.missing ≡ 0 → (x : Or (Unit {0})) → item_fault c ≡ x
    → (bs : List ℕ) → fault_of (after (passed_on x c) bs) ≡ Ok tt → Going announced n (passed_on x c)
settles {announced} {n} c g z (Ok _) e bs f = passed-by announced n c g z e g.shape
settles c g z (Err r) e bs f =
    let o : ◌≡◌ {A = Or (Unit {0})} (Err r) (Ok tt) = sym (kept c r z e bs) ∙ f in
    let q : ◌≡◌ {A = ℕ} 0 1 = cc in absurd (omega arith)

-- the state after a byte
pub next-open : (st : Portions) (b : ℕ) → 0 < st.missing → 0 < st.missing - 1 → next st b ≡ hold st b
unfolding next settled
next-open st b h m =
    rw (
      not-zero st.missing h,
      not-zero (st.missing - 1) m,
    )

pub next-complete : (st : Portions) (b : ℕ) → 0 < st.missing → st.missing - 1 ≡ 0
    → next st b ≡ passed_on (item_fault (hold st b)) (hold st b)
unfolding next settled
next-complete st b h m =
    rw (not-zero st.missing h, eq-eqb (st.missing - 1) 0 m)

-- a complete item shows no refusal, where the bytes behind it show none
fine-by : (c : Portions) → c.missing ≡ 0 → (x : Or (Unit {0})) → item_fault c ≡ x → (bs : List ℕ)
    → fault_of (after (passed_on x c) bs) ≡ Ok tt → x ≡ Ok tt
fine-by c z (Ok _) e bs f = refl
fine-by c z (Err r) e bs f = sym (kept c r z e bs) ∙ f

pub fine-behind : (c : Portions) → c.missing ≡ 0 → (bs : List ℕ) → fault_of (after (passed_on (item_fault c) c) bs) ≡ Ok tt
    → item_fault c ≡ Ok tt
fine-behind c z bs f = fine-by c z (item_fault c) refl bs f

-- so after any bytes that show no refusal
module _ (announced : ℕ) where
  pub going : (bs : List ℕ) (n : ℕ) (st : Portions) → Going announced n st → n + length bs ≤ announced
      → fault_of (after st bs) ≡ Ok tt → Going announced (n + length bs) (after st bs)
  unfolding after
  going [] n st g l f = rw (add-zero n) g
  going (b ∷ bs) n st (ended i k w z) l f = absurd (omega arith)
  going (b ∷ bs) n st (asks h g) l f =
      let c = hold st b in
      let e : n + suc (length bs) ≡ suc n + length bs = omega arith in
      let p = held st b h g in
      rw e
      (either (eqb (st.missing - 1) 0)
      (λ t. let z : st.missing - 1 ≡ 0 = eqb-true _ _ t in
      let q = next-complete st b h z in
      let k : fault_of (after (passed_on (item_fault c) c) bs) ≡ (Ok tt) = rw q at f in
      rw q (going bs (suc n) (passed_on (item_fault c) c) (settles c p z (item_fault c) refl bs k) (omega arith) k))
      (λ t. let z : st.missing - 1 ≡ 0 → ⊥ = eqb-false _ _ t in
      let m : 0 < st.missing - 1 = omega arith in
      let q = next-open st b h m in
      let k : fault_of (after c bs) ≡ (Ok tt) = rw q at f in
      rw q (going bs (suc n) c (asks m p) (omega arith) k)))

-- it is past the first four bytes
item-past : (item rest : ℕ) → Item item rest → eqb item head ≡ false
item-past item rest (at-sender i r) = rw i
item-past item rest (at_block i r) = rw i
item-past item rest (in-block (at_fields i r)) = rw i
item-past item rest (in-block (at-word i r)) = rw i
item-past item rest (in-block (at-time i r)) = rw i
item-past item rest (in-block (at-whose i r)) = rw i
item-past item rest (in-block (at-echo i r)) = rw i
item-past item rest (in-block (at-clock i r)) = rw i
item-past item rest (in-block (at-sums i r)) = rw i
item-past item rest (in-block (at-hops i r)) = rw i
item-past item rest (in-block (at-skipped i r)) = rw i

-- how many bytes were taken, and how many the header announces
pub record Past (announced n : ℕ) (st : Portions) : Type 0 where
  pub taken : taken_in st ≡ n
  pub length : (x : List ℕ) → announced_by st x ≡ announced

pub going-past : (announced n : ℕ) (st : Portions) → Going announced n st → Past announced n st
unfolding taken_in announced_by
going-past announced n st (asks h g) =
    let o : eqb st.item head ≡ false = item-past st.item st.rest g.shape in
    record { taken = rw o (omega (arith, g.length, g.all)); length = λ x. rw o g.length }
going-past announced n st (ended i k w z) = record { taken = rw i (omega arith); length = λ x. rw i k }
