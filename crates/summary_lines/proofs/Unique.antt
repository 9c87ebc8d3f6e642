-- No second answer satisfies a public function's contract. Each statement is about the contract in src/ itself, as
-- rattle reads it. Written by tools/unique. Assumes nothing.
use Rattle.std.proofs.Common.{sym, ◌∙◌}
use contract.Lifetimes.{Lfts}
use Rattle.laws.proofs.Determined.{Fixes}
use Rattle.summary_lines.proofs.summary_parts.Reads as summary_parts
use Rattle.summary_lines.proofs.summary_lines.Reads as summary_lines

pub summary_parts-unique : (κs : Lfts 2) → Fixes (summary_parts.Post κs) (λ r s. r)
summary_parts-unique κs a r₁ r₂ s₁ s₂ p q = p.place ∙ sym q.place

pub summary_parts-unique-buf : (κs : Lfts 2) → Fixes (summary_parts.Post κs) (λ r s. s.0.now)
summary_parts-unique-buf κs a r₁ r₂ s₁ s₂ p q = p.held ∙ sym q.held

pub summary_lines-unique : (κs : Lfts 1) → Fixes (summary_lines.Post κs) (λ r s. r)
summary_lines-unique κs a r₁ r₂ s₁ s₂ p q = p.place ∙ sym q.place

pub summary_lines-unique-buf : (κs : Lfts 1) → Fixes (summary_lines.Post κs) (λ r s. s.0.now)
summary_lines-unique-buf κs a r₁ r₂ s₁ s₂ p q = p.held ∙ sym q.held
