-- No second answer satisfies a public function's contract. Each statement is about the contract in src/ itself, as
-- rattle reads it. Written by tools/unique. Assumes nothing.
use Rattle.std.proofs.Common.{sym, ◌∙◌}
use contract.Lifetimes.{Lfts}
use Rattle.laws.proofs.Determined.{Fixes}
use Rattle.ones.proofs.weight.Reads as weight
use Rattle.ones.proofs.rest_of.Reads as rest_of
use Rattle.ones.proofs.store_run.Reads as store_run
use Rattle.ones.proofs.store_word.Reads as store_word
use Rattle.ones.proofs.stop_at.Reads as stop_at
use Rattle.ones.proofs.next_fail.Reads as next_fail
use Rattle.ones.proofs.put_places.Reads as put_places

pub weight-unique : (κs : Lfts 0) → Fixes (weight.Post κs) (λ r s. r)
weight-unique κs a r₁ r₂ s₁ s₂ p q = p ∙ sym q

pub rest_of-unique : (κs : Lfts 0) → Fixes (rest_of.Post κs) (λ r s. r)
rest_of-unique κs a r₁ r₂ s₁ s₂ p q = p ∙ sym q

pub store_run-unique-n : (κs : Lfts 1) → Fixes (store_run.Post κs) (λ r s. r.n)
store_run-unique-n κs a r₁ r₂ s₁ s₂ p q = p.0.past ∙ sym q.0.past

pub store_run-unique-out : (κs : Lfts 1) → Fixes (store_run.Post κs) (λ r s. s.0.now)
store_run-unique-out κs a r₁ r₂ s₁ s₂ p q = p.0.stored ∙ sym q.0.stored

pub store_run-unique-next : (κs : Lfts 1) → Fixes (store_run.Post κs) (λ r s. r.next)
store_run-unique-next κs a r₁ r₂ s₁ s₂ p q = p.1 ∙ sym q.1

pub store_word-unique : (κs : Lfts 1) → Fixes (store_word.Post κs) (λ r s. r)
store_word-unique κs a r₁ r₂ s₁ s₂ p q = p.past ∙ sym q.past

pub store_word-unique-out : (κs : Lfts 1) → Fixes (store_word.Post κs) (λ r s. s.0.now)
store_word-unique-out κs a r₁ r₂ s₁ s₂ p q = p.stored ∙ sym q.stored

pub stop_at-unique : (κs : Lfts 0) → Fixes (stop_at.Post κs) (λ r s. r)
stop_at-unique κs a r₁ r₂ s₁ s₂ p q = p ∙ sym q

pub next_fail-unique : (κs : Lfts 0) → Fixes (next_fail.Post κs) (λ r s. r)
next_fail-unique κs a r₁ r₂ s₁ s₂ p q = p ∙ sym q

pub put_places-unique : (κs : Lfts 1) → Fixes (put_places.Post κs) (λ r s. r)
put_places-unique κs a r₁ r₂ s₁ s₂ p q = p.past ∙ sym q.past

pub put_places-unique-out : (κs : Lfts 1) → Fixes (put_places.Post κs) (λ r s. s.0.now)
put_places-unique-out κs a r₁ r₂ s₁ s₂ p q = p.stored ∙ sym q.stored
