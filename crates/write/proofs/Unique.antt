-- No second answer satisfies a public function's contract. Each statement is about the contract in src/ itself, as
-- rattle reads it. Written by tools/unique. Assumes nothing.
use Rattle.std.proofs.Common.{sym, ◌∙◌}
use contract.Lifetimes.{Lfts}
use Rattle.laws.proofs.Determined.{Fixes}
use Rattle.write.proofs.write_plain.Reads as write_plain
use Rattle.write.proofs.write_careful.Reads as write_careful

pub write_plain-unique : (κs : Lfts 2) → Fixes (write_plain.Post κs) (λ r s. r)
write_plain-unique κs a r₁ r₂ s₁ s₂ p q = p.answer ∙ sym q.answer

pub write_plain-unique-out : (κs : Lfts 2) → Fixes (write_plain.Post κs) (λ r s. s.1.0.now)
write_plain-unique-out κs a r₁ r₂ s₁ s₂ p q = p.filled ∙ sym q.filled

pub write_careful-unique : (κs : Lfts 2) → Fixes (write_careful.Post κs) (λ r s. r)
write_careful-unique κs a r₁ r₂ s₁ s₂ p q = p.answer ∙ sym q.answer

pub write_careful-unique-out : (κs : Lfts 2) → Fixes (write_careful.Post κs) (λ r s. s.1.0.now)
write_careful-unique-out κs a r₁ r₂ s₁ s₂ p q = p.filled ∙ sym q.filled
