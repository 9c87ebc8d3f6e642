-- No second answer satisfies a public function's contract. Each statement is about the contract in src/ itself, as
-- rattle reads it. Written by tools/unique. Assumes nothing.
use Rattle.std.proofs.Common.{sym, ◌∙◌}
use contract.Lifetimes.{Lfts}
use Rattle.laws.proofs.Determined.{Fixes}
use Rattle.stats.proofs.summary_from.Reads as summary_from
use Rattle.stats.proofs.toh_of.Reads as toh_of
use Rattle.stats.proofs.flags_of.Reads as flags_of
use Rattle.stats.proofs.sums_of.Reads as sums_of

pub summary_from-unique : (κs : Lfts 0) → Fixes (summary_from.Post κs) (λ r s. r)
summary_from-unique κs a r₁ r₂ s₁ s₂ p q = p ∙ sym q

pub toh_of-unique : (κs : Lfts 0) → Fixes (toh_of.Post κs) (λ r s. r)
toh_of-unique κs a r₁ r₂ s₁ s₂ p q = p.0 ∙ sym q.0

pub flags_of-unique : (κs : Lfts 0) → Fixes (flags_of.Post κs) (λ r s. r)
flags_of-unique κs a r₁ r₂ s₁ s₂ p q = p ∙ sym q

pub sums_of-unique : (κs : Lfts 0) → Fixes (sums_of.Post κs) (λ r s. r)
sums_of-unique κs a r₁ r₂ s₁ s₂ p q = p ∙ sym q
