-- No second answer satisfies a public function's contract. Each statement is about the contract in src/ itself, as
-- rattle reads it. Written by tools/unique. Assumes nothing.
use Rattle.std.proofs.Common.{sym, ◌∙◌}
use contract.Lifetimes.{Lfts}
use Rattle.laws.proofs.Determined.{Fixes}
use Rattle.chunk.proofs.kind_bit.Reads as kind_bit
use Rattle.chunk.proofs.run_bit.Reads as run_bit
use Rattle.chunk.proofs.run_length.Reads as run_length
use Rattle.chunk.proofs.vector_bits.Reads as vector_bits
use Rattle.chunk.proofs.place_bit.Reads as place_bit
use Rattle.chunk.proofs.covers.Reads as covers
use Rattle.chunk.proofs.value.Reads as value
use Rattle.chunk.proofs.ones_before.Reads as ones_before
use Rattle.chunk.proofs.chunk_of.Reads as chunk_of
use Rattle.chunk.proofs.word_of.Reads as word_of
use Rattle.chunk.proofs.write_chunk.Reads as write_chunk

pub kind_bit-unique : (κs : Lfts 0) → Fixes (kind_bit.Post κs) (λ r s. r)
kind_bit-unique κs a r₁ r₂ s₁ s₂ p q = p ∙ sym q

pub run_bit-unique : (κs : Lfts 0) → Fixes (run_bit.Post κs) (λ r s. r)
run_bit-unique κs a r₁ r₂ s₁ s₂ p q = p ∙ sym q

pub run_length-unique : (κs : Lfts 0) → Fixes (run_length.Post κs) (λ r s. r)
run_length-unique κs a r₁ r₂ s₁ s₂ p q = p ∙ sym q

pub vector_bits-unique : (κs : Lfts 0) → Fixes (vector_bits.Post κs) (λ r s. r)
vector_bits-unique κs a r₁ r₂ s₁ s₂ p q = p ∙ sym q

pub place_bit-unique : (κs : Lfts 0) → Fixes (place_bit.Post κs) (λ r s. r)
place_bit-unique κs a r₁ r₂ s₁ s₂ p q = p ∙ sym q

pub covers-unique : (κs : Lfts 0) → Fixes (covers.Post κs) (λ r s. r)
covers-unique κs a r₁ r₂ s₁ s₂ p q = p ∙ sym q

pub value-unique : (κs : Lfts 0) → Fixes (value.Post κs) (λ r s. r)
value-unique κs a r₁ r₂ s₁ s₂ p q = p ∙ sym q

pub ones_before-unique : (κs : Lfts 0) → Fixes (ones_before.Post κs) (λ r s. r)
ones_before-unique κs a r₁ r₂ s₁ s₂ p q = p ∙ sym q

pub chunk_of-unique : (κs : Lfts 0) → Fixes (chunk_of.Post κs) (λ r s. r)
chunk_of-unique κs a r₁ r₂ s₁ s₂ p q = p ∙ sym q

pub word_of-unique : (κs : Lfts 0) → Fixes (word_of.Post κs) (λ r s. r)
word_of-unique κs a r₁ r₂ s₁ s₂ p q = p ∙ sym q

pub write_chunk-unique : (κs : Lfts 1) → Fixes (write_chunk.Post κs) (λ r s. r)
write_chunk-unique κs a r₁ r₂ s₁ s₂ p q = p.answer ∙ sym q.answer

pub write_chunk-unique-out : (κs : Lfts 1) → Fixes (write_chunk.Post κs) (λ r s. s.1.0.now)
write_chunk-unique-out κs a r₁ r₂ s₁ s₂ p q = p.filled ∙ sym q.filled
