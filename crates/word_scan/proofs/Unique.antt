-- No second answer satisfies a public function's contract. Each statement is about the contract in src/ itself, as
-- rattle reads it. Written by tools/unique. Assumes nothing.
use Rattle.std.proofs.Common.{sym, ◌∙◌}
use contract.Lifetimes.{Lfts}
use Rattle.laws.proofs.Determined.{Fixes}
use Rattle.word_scan.proofs.has_lost_run.Reads as has_lost_run
use Rattle.word_scan.proofs.has_lost_run_low.Reads as has_lost_run_low

pub has_lost_run-unique : (κs : Lfts 1) → Fixes (has_lost_run.Post κs) (λ r s. r)
has_lost_run-unique κs a r₁ r₂ s₁ s₂ p q = p ∙ sym q

pub has_lost_run_low-unique : (κs : Lfts 1) → Fixes (has_lost_run_low.Post κs) (λ r s. r)
has_lost_run_low-unique κs a r₁ r₂ s₁ s₂ p q = p ∙ sym q
