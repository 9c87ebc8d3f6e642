-- No second answer satisfies a public function's contract. Each statement is about the contract in src/ itself, as
-- rattle reads it. Written by tools/unique. Assumes nothing.
use Rattle.std.proofs.Common.{sym, ◌∙◌}
use contract.Lifetimes.{Lfts}
use Rattle.laws.proofs.Determined.{Fixes}
use Rattle.probe.proofs.answer.Reads as answer

pub answer-unique-at : (κs : Lfts 2) → Fixes (answer.Post κs) (λ r s. r.at)
answer-unique-at κs a r₁ r₂ s₁ s₂ p q = p.0.place ∙ sym q.0.place

pub answer-unique-buf : (κs : Lfts 2) → Fixes (answer.Post κs) (λ r s. s.1.1.0.now)
answer-unique-buf κs a r₁ r₂ s₁ s₂ p q = p.0.held ∙ sym q.0.held

pub answer-unique-served : (κs : Lfts 2) → Fixes (answer.Post κs) (λ r s. r.served)
answer-unique-served κs a r₁ r₂ s₁ s₂ p q = p.1 ∙ sym q.1
