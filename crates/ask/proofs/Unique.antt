-- No second answer satisfies a public function's contract. Each statement is about the contract in src/ itself, as
-- rattle reads it. Written by tools/unique. Assumes nothing.
use Rattle.std.proofs.Common.{sym, ◌∙◌}
use contract.Lifetimes.{Lfts}
use Rattle.laws.proofs.Determined.{Fixes}
use Rattle.ask.proofs.fields.Reads as fields
use Rattle.ask.proofs.time.Reads as time
use Rattle.ask.proofs.summed.Reads as summed
use Rattle.ask.proofs.parsed.Reads as parsed
use Rattle.ask.proofs.viewed.Reads as viewed
use Rattle.ask.proofs.written.Reads as written
use Rattle.ask.proofs.made.Reads as made

pub fields-unique : (κs : Lfts 2) → Fixes (fields.Post κs) (λ r s. r)
fields-unique κs a r₁ r₂ s₁ s₂ p q = p.place ∙ sym q.place

pub fields-unique-buf : (κs : Lfts 2) → Fixes (fields.Post κs) (λ r s. s.1.1.1.1.0.now)
fields-unique-buf κs a r₁ r₂ s₁ s₂ p q = p.held ∙ sym q.held

pub time-unique : (κs : Lfts 2) → Fixes (time.Post κs) (λ r s. r)
time-unique κs a r₁ r₂ s₁ s₂ p q = p.place ∙ sym q.place

pub time-unique-buf : (κs : Lfts 2) → Fixes (time.Post κs) (λ r s. s.1.1.1.0.now)
time-unique-buf κs a r₁ r₂ s₁ s₂ p q = p.held ∙ sym q.held

pub summed-unique : (κs : Lfts 2) → Fixes (summed.Post κs) (λ r s. r)
summed-unique κs a r₁ r₂ s₁ s₂ p q = p.place ∙ sym q.place

pub summed-unique-buf : (κs : Lfts 2) → Fixes (summed.Post κs) (λ r s. s.1.1.1.0.now)
summed-unique-buf κs a r₁ r₂ s₁ s₂ p q = p.held ∙ sym q.held

pub parsed-unique : (κs : Lfts 2) → Fixes (parsed.Post κs) (λ r s. r)
parsed-unique κs a r₁ r₂ s₁ s₂ p q = p.place ∙ sym q.place

pub parsed-unique-buf : (κs : Lfts 2) → Fixes (parsed.Post κs) (λ r s. s.1.1.0.now)
parsed-unique-buf κs a r₁ r₂ s₁ s₂ p q = p.held ∙ sym q.held

pub viewed-unique : (κs : Lfts 2) → Fixes (viewed.Post κs) (λ r s. r)
viewed-unique κs a r₁ r₂ s₁ s₂ p q = p.place ∙ sym q.place

pub viewed-unique-buf : (κs : Lfts 2) → Fixes (viewed.Post κs) (λ r s. s.1.1.1.0.now)
viewed-unique-buf κs a r₁ r₂ s₁ s₂ p q = p.held ∙ sym q.held

pub written-unique : (κs : Lfts 2) → Fixes (written.Post κs) (λ r s. r)
written-unique κs a r₁ r₂ s₁ s₂ p q = p.place ∙ sym q.place

pub written-unique-buf : (κs : Lfts 2) → Fixes (written.Post κs) (λ r s. s.1.1.1.0.now)
written-unique-buf κs a r₁ r₂ s₁ s₂ p q = p.held ∙ sym q.held

pub made-unique : (κs : Lfts 1) → Fixes (made.Post κs) (λ r s. r)
made-unique κs a r₁ r₂ s₁ s₂ p q = p.place ∙ sym q.place

pub made-unique-buf : (κs : Lfts 1) → Fixes (made.Post κs) (λ r s. s.1.1.0.now)
made-unique-buf κs a r₁ r₂ s₁ s₂ p q = p.held ∙ sym q.held
