-- No second answer satisfies a public function's contract. Each statement is about the contract in src/ itself, as
-- rattle reads it. Written by tools/unique. Assumes nothing.
use Rattle.std.proofs.Common.{sym, ◌∙◌}
use contract.Lifetimes.{Lfts}
use Rattle.laws.proofs.Determined.{Fixes}
use Rattle.refusal_number.proofs.number.Reads as number

pub number-unique : (κs : Lfts 0) → Fixes (number.Post κs) (λ r s. r)
number-unique κs a r₁ r₂ s₁ s₂ p q = p ∙ sym q
