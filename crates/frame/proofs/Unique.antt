-- No second answer satisfies a public function's contract. Each statement is about the contract in src/ itself, as
-- rattle reads it. Written by tools/unique. Assumes nothing.
use Rattle.std.proofs.Common.{sym, ◌∙◌}
use contract.Lifetimes.{Lfts}
use Rattle.laws.proofs.Determined.{Fixes}
use Rattle.frame.proofs.write_header.Reads as write_header
use Rattle.frame.proofs.write_padding.Reads as write_padding

pub write_header-unique : (κs : Lfts 1) → Fixes (write_header.Post κs) (λ r s. r)
write_header-unique κs a r₁ r₂ s₁ s₂ p q = p.past ∙ sym q.past

pub write_header-unique-out : (κs : Lfts 1) → Fixes (write_header.Post κs) (λ r s. s.0.now)
write_header-unique-out κs a r₁ r₂ s₁ s₂ p q = p.stored ∙ sym q.stored

pub write_padding-unique : (κs : Lfts 1) → Fixes (write_padding.Post κs) (λ r s. r)
write_padding-unique κs a r₁ r₂ s₁ s₂ p q = p.past ∙ sym q.past

pub write_padding-unique-out : (κs : Lfts 1) → Fixes (write_padding.Post κs) (λ r s. s.0.now)
write_padding-unique-out κs a r₁ r₂ s₁ s₂ p q = p.stored ∙ sym q.stored
