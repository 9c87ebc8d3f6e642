-- No second answer satisfies a public function's contract. Each statement is about the contract in src/ itself, as
-- rattle reads it. Written by tools/unique. Assumes nothing.
use Rattle.std.proofs.Common.{sym, ◌∙◌}
use contract.Lifetimes.{Lfts}
use Rattle.laws.proofs.Determined.{Fixes}
use Rattle.builder.proofs.write_block.Reads as write_block

pub write_block-unique : (κs : Lfts 2) → Fixes (write_block.Post κs) (λ r s. r)
write_block-unique κs a r₁ r₂ s₁ s₂ p q = p.past ∙ sym q.past

pub write_block-unique-out : (κs : Lfts 2) → Fixes (write_block.Post κs) (λ r s. s.1.1.1.0.now)
write_block-unique-out κs a r₁ r₂ s₁ s₂ p q = p.stored ∙ sym q.stored
