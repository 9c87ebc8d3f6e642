-- No second answer satisfies a public function's contract. Each statement is about the contract in src/ itself, as
-- rattle reads it. Written by tools/unique. Assumes nothing.
use Rattle.std.proofs.Common.{sym, ◌∙◌}
use contract.Lifetimes.{Lfts}
use Rattle.laws.proofs.Determined.{Fixes}
use Rattle.flat.proofs.reading.Reads as reading
use Rattle.flat.proofs.kind.Reads as kind
use Rattle.flat.proofs.refusal.Reads as refusal
use Rattle.flat.proofs.answer.Reads as answer
use Rattle.flat.proofs.located.Reads as located
use Rattle.flat.proofs.fields.Reads as fields
use Rattle.flat.proofs.time.Reads as time
use Rattle.flat.proofs.stretch.Reads as stretch
use Rattle.flat.proofs.kind_number.Reads as kind_number
use Rattle.flat.proofs.followed.Reads as followed
use Rattle.flat.proofs.summary.Reads as summary

pub reading-unique : (κs : Lfts 0) → Fixes (reading.Post κs) (λ r s. r)
reading-unique κs a r₁ r₂ s₁ s₂ p q = p ∙ sym q

pub kind-unique : (κs : Lfts 0) → Fixes (kind.Post κs) (λ r s. r)
kind-unique κs a r₁ r₂ s₁ s₂ p q = p ∙ sym q

pub refusal-unique : (κs : Lfts 0) → Fixes (refusal.Post κs) (λ r s. r)
refusal-unique κs a r₁ r₂ s₁ s₂ p q = p ∙ sym q

pub answer-unique : (κs : Lfts 0) → Fixes (answer.Post κs) (λ r s. r)
answer-unique κs a r₁ r₂ s₁ s₂ p q = p ∙ sym q

pub located-unique : (κs : Lfts 0) → Fixes (located.Post κs) (λ r s. r)
located-unique κs a r₁ r₂ s₁ s₂ p q = p ∙ sym q

pub fields-unique : (κs : Lfts 0) → Fixes (fields.Post κs) (λ r s. r)
fields-unique κs a r₁ r₂ s₁ s₂ p q = p ∙ sym q

pub time-unique : (κs : Lfts 0) → Fixes (time.Post κs) (λ r s. r)
time-unique κs a r₁ r₂ s₁ s₂ p q = p ∙ sym q

pub stretch-unique : (κs : Lfts 0) → Fixes (stretch.Post κs) (λ r s. r)
stretch-unique κs a r₁ r₂ s₁ s₂ p q = p ∙ sym q

pub kind_number-unique : (κs : Lfts 0) → Fixes (kind_number.Post κs) (λ r s. r)
kind_number-unique κs a r₁ r₂ s₁ s₂ p q = p ∙ sym q

pub followed-unique : (κs : Lfts 0) → Fixes (followed.Post κs) (λ r s. r)
followed-unique κs a r₁ r₂ s₁ s₂ p q = p ∙ sym q

pub summary-unique : (κs : Lfts 0) → Fixes (summary.Post κs) (λ r s. r)
summary-unique κs a r₁ r₂ s₁ s₂ p q = p ∙ sym q
