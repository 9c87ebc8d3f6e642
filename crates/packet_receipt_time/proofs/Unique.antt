-- No second answer satisfies a public function's contract. Each statement is about the contract in src/ itself, as
-- rattle reads it. Written by tools/unique. Assumes nothing.
use Rattle.std.proofs.Common.{sym, ◌∙◌}
use contract.Lifetimes.{Lfts}
use Rattle.laws.proofs.Determined.{Fixes}
use Rattle.packet_receipt_time.proofs.pairs.Reads as pairs
use Rattle.packet_receipt_time.proofs.pairs_in.Reads as pairs_in

pub pairs-unique : (κs : Lfts 3) → Fixes (pairs.Post κs) (λ r s. r)
pairs-unique κs a r₁ r₂ s₁ s₂ p q = p.answer ∙ sym q.answer

pub pairs-unique-numbers : (κs : Lfts 3) → Fixes (pairs.Post κs) (λ r s. s.1.1.0.now)
pairs-unique-numbers κs a r₁ r₂ s₁ s₂ p q = p.numbers ∙ sym q.numbers

pub pairs-unique-times : (κs : Lfts 3) → Fixes (pairs.Post κs) (λ r s. s.1.1.1.0.now)
pairs-unique-times κs a r₁ r₂ s₁ s₂ p q = p.times ∙ sym q.times

pub pairs_in-unique : (κs : Lfts 3) → Fixes (pairs_in.Post κs) (λ r s. r)
pairs_in-unique κs a r₁ r₂ s₁ s₂ p q = p.answer ∙ sym q.answer

pub pairs_in-unique-numbers : (κs : Lfts 3) → Fixes (pairs_in.Post κs) (λ r s. s.1.1.1.0.now)
pairs_in-unique-numbers κs a r₁ r₂ s₁ s₂ p q = p.numbers ∙ sym q.numbers

pub pairs_in-unique-times : (κs : Lfts 3) → Fixes (pairs_in.Post κs) (λ r s. s.1.1.1.1.0.now)
pairs_in-unique-times κs a r₁ r₂ s₁ s₂ p q = p.times ∙ sym q.times
