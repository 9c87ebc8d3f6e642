-- No second answer satisfies a public function's contract. Each statement is about the contract in src/ itself, as
-- rattle reads it. Written by tools/unique. Assumes nothing.
use Rattle.std.proofs.Common.{sym, ◌∙◌}
use contract.Lifetimes.{Lfts}
use Rattle.laws.proofs.Determined.{Fixes}
use Rattle.steps.proofs.start.Reads as start
use Rattle.steps.proofs.low16.Reads as low16
use Rattle.steps.proofs.low32.Reads as low32
use Rattle.steps.proofs.length_of.Reads as length_of
use Rattle.steps.proofs.thinning_of.Reads as thinning_of
use Rattle.steps.proofs.good_length.Reads as good_length
use Rattle.steps.proofs.block_fault.Reads as block_fault
use Rattle.steps.proofs.fault.Reads as fault
use Rattle.steps.proofs.next_block.Reads as next_block
use Rattle.steps.proofs.fields_in.Reads as fields_in
use Rattle.steps.proofs.passed.Reads as passed
use Rattle.steps.proofs.lone.Reads as lone
use Rattle.steps.proofs.settle.Reads as settle
use Rattle.steps.proofs.hold.Reads as hold

pub start-unique : (κs : Lfts 0) → Fixes (start.Post κs) (λ r s. r)
start-unique κs a r₁ r₂ s₁ s₂ p q = p ∙ sym q

pub low16-unique : (κs : Lfts 0) → Fixes (low16.Post κs) (λ r s. r)
low16-unique κs a r₁ r₂ s₁ s₂ p q = p ∙ sym q

pub low32-unique : (κs : Lfts 0) → Fixes (low32.Post κs) (λ r s. r)
low32-unique κs a r₁ r₂ s₁ s₂ p q = p ∙ sym q

pub length_of-unique : (κs : Lfts 0) → Fixes (length_of.Post κs) (λ r s. r)
length_of-unique κs a r₁ r₂ s₁ s₂ p q = p.0 ∙ sym q.0

pub thinning_of-unique : (κs : Lfts 0) → Fixes (thinning_of.Post κs) (λ r s. r)
thinning_of-unique κs a r₁ r₂ s₁ s₂ p q = p ∙ sym q

pub good_length-unique : (κs : Lfts 0) → Fixes (good_length.Post κs) (λ r s. r)
good_length-unique κs a r₁ r₂ s₁ s₂ p q = p ∙ sym q

pub block_fault-unique : (κs : Lfts 0) → Fixes (block_fault.Post κs) (λ r s. r)
block_fault-unique κs a r₁ r₂ s₁ s₂ p q = p ∙ sym q

pub fault-unique : (κs : Lfts 0) → Fixes (fault.Post κs) (λ r s. r)
fault-unique κs a r₁ r₂ s₁ s₂ p q = p ∙ sym q

pub next_block-unique : (κs : Lfts 0) → Fixes (next_block.Post κs) (λ r s. r)
next_block-unique κs a r₁ r₂ s₁ s₂ p q = p ∙ sym q

pub fields_in-unique : (κs : Lfts 0) → Fixes (fields_in.Post κs) (λ r s. r)
fields_in-unique κs a r₁ r₂ s₁ s₂ p q = p ∙ sym q

pub passed-unique : (κs : Lfts 0) → Fixes (passed.Post κs) (λ r s. r)
passed-unique κs a r₁ r₂ s₁ s₂ p q = p ∙ sym q

pub lone-unique : (κs : Lfts 0) → Fixes (lone.Post κs) (λ r s. r)
lone-unique κs a r₁ r₂ s₁ s₂ p q = p ∙ sym q

pub settle-unique : (κs : Lfts 0) → Fixes (settle.Post κs) (λ r s. r)
settle-unique κs a r₁ r₂ s₁ s₂ p q = p ∙ sym q

pub hold-unique : (κs : Lfts 1) → Fixes (hold.Post κs) (λ r s. r)
hold-unique κs a r₁ r₂ s₁ s₂ p q = p ∙ sym q
