-- No second answer satisfies a public function's contract. Each statement is about the contract in src/ itself, as
-- rattle reads it. Written by tools/unique. Assumes nothing.
use Rattle.std.proofs.Common.{sym, ◌∙◌}
use contract.Lifetimes.{Lfts}
use Rattle.laws.proofs.Determined.{Fixes}
use Rattle.dump.proofs.dump.Reads as dump

pub dump-unique : (κs : Lfts 2) → Fixes (dump.Post κs) (λ r s. r)
dump-unique κs a r₁ r₂ s₁ s₂ p q = p.place ∙ sym q.place

pub dump-unique-buf : (κs : Lfts 2) → Fixes (dump.Post κs) (λ r s. s.1.0.now)
dump-unique-buf κs a r₁ r₂ s₁ s₂ p q = p.held ∙ sym q.held
