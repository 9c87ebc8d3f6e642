-- No second answer satisfies a public function's contract. Each statement is about the contract in src/ itself, as
-- rattle reads it. Written by tools/unique. Assumes nothing.
use Rattle.std.proofs.Common.{sym, ◌∙◌}
use contract.Lifetimes.{Lfts}
use Rattle.laws.proofs.Determined.{Fixes}
use Rattle.rle_standard.proofs.count_standard.Reads as count_standard
use Rattle.rle_standard.proofs.fill_standard.Reads as fill_standard
use Rattle.rle_standard.proofs.fill_clear.Reads as fill_clear

pub count_standard-unique : (κs : Lfts 1) → Fixes (count_standard.Post κs) (λ r s. r)
count_standard-unique κs a r₁ r₂ s₁ s₂ p q = p ∙ sym q

pub fill_standard-unique : (κs : Lfts 2) → Fixes (fill_standard.Post κs) (λ r s. r)
fill_standard-unique κs a r₁ r₂ s₁ s₂ p q = p.answer ∙ sym q.answer

pub fill_standard-unique-out : (κs : Lfts 2) → Fixes (fill_standard.Post κs) (λ r s. s.1.1.0.now)
fill_standard-unique-out κs a r₁ r₂ s₁ s₂ p q = p.filled ∙ sym q.filled

pub fill_clear-unique : (κs : Lfts 2) → Fixes (fill_clear.Post κs) (λ r s. r)
fill_clear-unique κs a r₁ r₂ s₁ s₂ p q = p.answer ∙ sym q.answer

pub fill_clear-unique-out : (κs : Lfts 2) → Fixes (fill_clear.Post κs) (λ r s. s.1.1.1.0.now)
fill_clear-unique-out κs a r₁ r₂ s₁ s₂ p q = p.filled ∙ sym q.filled
