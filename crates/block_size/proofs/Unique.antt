-- No second answer satisfies a public function's contract. Each statement is about the contract in src/ itself, as
-- rattle reads it. Written by tools/unique. Assumes nothing.
use Rattle.std.proofs.Common.{sym, ◌∙◌}
use contract.Lifetimes.{Lfts}
use Rattle.laws.proofs.Determined.{Fixes}
use Rattle.block_size.proofs.zeros_behind.Reads as zeros_behind
use Rattle.block_size.proofs.block_size.Reads as block_size
use Rattle.block_size.proofs.judged_size.Reads as judged_size
use Rattle.block_size.proofs.is_block.Reads as is_block

pub zeros_behind-unique : (κs : Lfts 1) → Fixes (zeros_behind.Post κs) (λ r s. r)
zeros_behind-unique κs a r₁ r₂ s₁ s₂ p q = p ∙ sym q

pub block_size-unique : (κs : Lfts 1) → Fixes (block_size.Post κs) (λ r s. r)
block_size-unique κs a r₁ r₂ s₁ s₂ p q = p ∙ sym q

pub judged_size-unique : (κs : Lfts 1) → Fixes (judged_size.Post κs) (λ r s. r)
judged_size-unique κs a r₁ r₂ s₁ s₂ p q = p ∙ sym q

pub is_block-unique : (κs : Lfts 1) → Fixes (is_block.Post κs) (λ r s. r)
is_block-unique κs a r₁ r₂ s₁ s₂ p q = p ∙ sym q
