-- No second answer satisfies a public function's contract. Each statement is about the contract in src/ itself, as
-- rattle reads it. Written by tools/unique. Assumes nothing.
use Rattle.std.proofs.Common.{sym, ◌∙◌}
use contract.Lifetimes.{Lfts}
use Rattle.laws.proofs.Determined.{Fixes}
use Rattle.summary.proofs.summary_at.Reads as summary_at
use Rattle.summary.proofs.summary.Reads as summary
use Rattle.summary.proofs.summary_in.Reads as summary_in

pub summary_at-unique : (κs : Lfts 1) → Fixes (summary_at.Post κs) (λ r s. r)
summary_at-unique κs a r₁ r₂ s₁ s₂ p q = p ∙ sym q

pub summary-unique : (κs : Lfts 1) → Fixes (summary.Post κs) (λ r s. r)
summary-unique κs a r₁ r₂ s₁ s₂ p q = p ∙ sym q

pub summary_in-unique : (κs : Lfts 1) → Fixes (summary_in.Post κs) (λ r s. r)
summary_in-unique κs a r₁ r₂ s₁ s₂ p q = p ∙ sym q
