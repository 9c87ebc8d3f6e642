-- No second answer satisfies a public function's contract. Each statement is about the contract in src/ itself, as
-- rattle reads it. Written by tools/unique. Assumes nothing.
use Rattle.std.proofs.Common.{sym, ◌∙◌}
use contract.Lifetimes.{Lfts}
use Rattle.laws.proofs.Determined.{Fixes}
use Rattle.rle.proofs.count_crate.Reads as count_crate
use Rattle.rle.proofs.fill_crate.Reads as fill_crate

pub count_crate-unique : (κs : Lfts 1) → Fixes (count_crate.Post κs) (λ r s. r)
count_crate-unique κs a r₁ r₂ s₁ s₂ p q = p ∙ sym q

pub fill_crate-unique : (κs : Lfts 2) → Fixes (fill_crate.Post κs) (λ r s. r)
fill_crate-unique κs a r₁ r₂ s₁ s₂ p q = p.answer ∙ sym q.answer

pub fill_crate-unique-out : (κs : Lfts 2) → Fixes (fill_crate.Post κs) (λ r s. s.1.1.1.1.0.now)
fill_crate-unique-out κs a r₁ r₂ s₁ s₂ p q = p.filled ∙ sym q.filled
