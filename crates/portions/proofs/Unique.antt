-- No second answer satisfies a public function's contract. Each statement is about the contract in src/ itself, as
-- rattle reads it. Written by tools/unique. Assumes nothing.
use Rattle.std.proofs.Common.{sym, ◌∙◌}
use contract.Lifetimes.{Lfts}
use Rattle.laws.proofs.Determined.{Fixes}
use Rattle.portions.proofs.follow.Reads as follow

pub follow-unique : (κs : Lfts 5) → Fixes (follow.Post κs) (λ r s. r)
follow-unique κs a r₁ r₂ s₁ s₂ p q = p.answer ∙ sym q.answer

pub follow-unique-tags : (κs : Lfts 5) → Fixes (follow.Post κs) (λ r s. s.1.1.0.now)
follow-unique-tags κs a r₁ r₂ s₁ s₂ p q = p.tags ∙ sym q.tags

pub follow-unique-numbers : (κs : Lfts 5) → Fixes (follow.Post κs) (λ r s. s.1.1.1.0.now)
follow-unique-numbers κs a r₁ r₂ s₁ s₂ p q = p.numbers ∙ sym q.numbers

pub follow-unique-values : (κs : Lfts 5) → Fixes (follow.Post κs) (λ r s. s.1.1.1.1.0.now)
follow-unique-values κs a r₁ r₂ s₁ s₂ p q = p.values ∙ sym q.values

pub follow-unique-sums : (κs : Lfts 5) → Fixes (follow.Post κs) (λ r s. s.1.1.1.1.1.0.now)
follow-unique-sums κs a r₁ r₂ s₁ s₂ p q = p.sums ∙ sym q.sums
