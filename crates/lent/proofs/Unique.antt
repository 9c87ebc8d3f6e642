-- No second answer satisfies a public function's contract. Each statement is about the contract in src/ itself, as
-- rattle reads it. Written by tools/unique. Assumes nothing.
use Rattle.std.proofs.Common.{sym, ◌∙◌}
use contract.Lifetimes.{Lfts}
use Rattle.laws.proofs.Determined.{Fixes}
use Rattle.lent.proofs.said_whole.Reads as said_whole

pub said_whole-unique : (κs : Lfts 1) → Fixes (said_whole.Post κs) (λ r s. r)
said_whole-unique κs a r₁ r₂ s₁ s₂ p q = p.place ∙ sym q.place

pub said_whole-unique-buf : (κs : Lfts 1) → Fixes (said_whole.Post κs) (λ r s. s.0.now)
said_whole-unique-buf κs a r₁ r₂ s₁ s₂ p q = p.held ∙ sym q.held
