-- No second answer satisfies a public function's contract. Each statement is about the contract in src/ itself, as
-- rattle reads it. Written by tools/unique. Assumes nothing.
use Rattle.std.proofs.Common.{sym, ◌∙◌}
use contract.Lifetimes.{Lfts}
use Rattle.laws.proofs.Determined.{Fixes}
use Rattle.block_events.proofs.count_block.Reads as count_block
use Rattle.block_events.proofs.lost_fault.Reads as lost_fault
use Rattle.block_events.proofs.put_block.Reads as put_block

pub count_block-unique : (κs : Lfts 1) → Fixes (count_block.Post κs) (λ r s. r)
count_block-unique κs a r₁ r₂ s₁ s₂ p q = p ∙ sym q

pub lost_fault-unique : (κs : Lfts 1) → Fixes (lost_fault.Post κs) (λ r s. r)
lost_fault-unique κs a r₁ r₂ s₁ s₂ p q = p ∙ sym q

pub put_block-unique : (κs : Lfts 5) → Fixes (put_block.Post κs) (λ r s. r)
put_block-unique κs a r₁ r₂ s₁ s₂ p q = p.past ∙ sym q.past

pub put_block-unique-tags : (κs : Lfts 5) → Fixes (put_block.Post κs) (λ r s. s.1.0.now)
put_block-unique-tags κs a r₁ r₂ s₁ s₂ p q = p.tags ∙ sym q.tags

pub put_block-unique-numbers : (κs : Lfts 5) → Fixes (put_block.Post κs) (λ r s. s.1.1.0.now)
put_block-unique-numbers κs a r₁ r₂ s₁ s₂ p q = p.numbers ∙ sym q.numbers

pub put_block-unique-values : (κs : Lfts 5) → Fixes (put_block.Post κs) (λ r s. s.1.1.1.0.now)
put_block-unique-values κs a r₁ r₂ s₁ s₂ p q = p.values ∙ sym q.values

pub put_block-unique-sums : (κs : Lfts 5) → Fixes (put_block.Post κs) (λ r s. s.1.1.1.1.0.now)
put_block-unique-sums κs a r₁ r₂ s₁ s₂ p q = p.sums ∙ sym q.sums
