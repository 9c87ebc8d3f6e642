-- No second answer satisfies a public function's contract. Each statement is about the contract in src/ itself, as
-- rattle reads it. Written by tools/unique. Assumes nothing.
use Rattle.std.proofs.Common.{sym, ◌∙◌}
use contract.Lifetimes.{Lfts}
use Rattle.laws.proofs.Determined.{Fixes}
use Rattle.cursor.proofs.advance.Reads as advance
use Rattle.cursor.proofs.advance_in.Reads as advance_in

pub advance-unique : (κs : Lfts 2) → Fixes (advance.Post κs) (λ r s. r)
advance-unique κs a r₁ r₂ s₁ s₂ p q = p.answer ∙ sym q.answer

pub advance-unique-out : (κs : Lfts 2) → Fixes (advance.Post κs) (λ r s. s.1.1.1.1.0.now)
advance-unique-out κs a r₁ r₂ s₁ s₂ p q = p.filled ∙ sym q.filled

pub advance_in-unique : (κs : Lfts 2) → Fixes (advance_in.Post κs) (λ r s. r)
advance_in-unique κs a r₁ r₂ s₁ s₂ p q = p.answer ∙ sym q.answer

pub advance_in-unique-out : (κs : Lfts 2) → Fixes (advance_in.Post κs) (λ r s. s.1.1.1.1.1.0.now)
advance_in-unique-out κs a r₁ r₂ s₁ s₂ p q = p.filled ∙ sym q.filled
