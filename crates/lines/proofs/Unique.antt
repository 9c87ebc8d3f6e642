-- No second answer satisfies a public function's contract. Each statement is about the contract in src/ itself, as
-- rattle reads it. Written by tools/unique. Assumes nothing.
use Rattle.std.proofs.Common.{sym, ◌∙◌}
use contract.Lifetimes.{Lfts}
use Rattle.laws.proofs.Determined.{Fixes}
use Rattle.lines.proofs.refused_line.Reads as refused_line
use Rattle.lines.proofs.fields_line.Reads as fields_line
use Rattle.lines.proofs.time_line.Reads as time_line
use Rattle.lines.proofs.numbers_line.Reads as numbers_line
use Rattle.lines.proofs.pairs_line.Reads as pairs_line
use Rattle.lines.proofs.entries_line.Reads as entries_line
use Rattle.lines.proofs.block_line.Reads as block_line
use Rattle.lines.proofs.refusal_line.Reads as refusal_line
use Rattle.lines.proofs.words_line.Reads as words_line
use Rattle.lines.proofs.taken_line.Reads as taken_line
use Rattle.lines.proofs.word_line.Reads as word_line
use Rattle.lines.proofs.blocks_line.Reads as blocks_line
use Rattle.lines.proofs.view_line.Reads as view_line
use Rattle.lines.proofs.packet_line.Reads as packet_line

pub refused_line-unique : (κs : Lfts 1) → Fixes (refused_line.Post κs) (λ r s. r)
refused_line-unique κs a r₁ r₂ s₁ s₂ p q = p.place ∙ sym q.place

pub refused_line-unique-buf : (κs : Lfts 1) → Fixes (refused_line.Post κs) (λ r s. s.0.now)
refused_line-unique-buf κs a r₁ r₂ s₁ s₂ p q = p.held ∙ sym q.held

pub fields_line-unique : (κs : Lfts 1) → Fixes (fields_line.Post κs) (λ r s. r)
fields_line-unique κs a r₁ r₂ s₁ s₂ p q = p.place ∙ sym q.place

pub fields_line-unique-buf : (κs : Lfts 1) → Fixes (fields_line.Post κs) (λ r s. s.0.now)
fields_line-unique-buf κs a r₁ r₂ s₁ s₂ p q = p.held ∙ sym q.held

pub time_line-unique : (κs : Lfts 1) → Fixes (time_line.Post κs) (λ r s. r)
time_line-unique κs a r₁ r₂ s₁ s₂ p q = p.place ∙ sym q.place

pub time_line-unique-buf : (κs : Lfts 1) → Fixes (time_line.Post κs) (λ r s. s.0.now)
time_line-unique-buf κs a r₁ r₂ s₁ s₂ p q = p.held ∙ sym q.held

pub numbers_line-unique : (κs : Lfts 2) → Fixes (numbers_line.Post κs) (λ r s. r)
numbers_line-unique κs a r₁ r₂ s₁ s₂ p q = p.place ∙ sym q.place

pub numbers_line-unique-buf : (κs : Lfts 2) → Fixes (numbers_line.Post κs) (λ r s. s.0.now)
numbers_line-unique-buf κs a r₁ r₂ s₁ s₂ p q = p.held ∙ sym q.held

pub pairs_line-unique : (κs : Lfts 3) → Fixes (pairs_line.Post κs) (λ r s. r)
pairs_line-unique κs a r₁ r₂ s₁ s₂ p q = p.place ∙ sym q.place

pub pairs_line-unique-buf : (κs : Lfts 3) → Fixes (pairs_line.Post κs) (λ r s. s.0.now)
pairs_line-unique-buf κs a r₁ r₂ s₁ s₂ p q = p.held ∙ sym q.held

pub entries_line-unique : (κs : Lfts 4) → Fixes (entries_line.Post κs) (λ r s. r)
entries_line-unique κs a r₁ r₂ s₁ s₂ p q = p.place ∙ sym q.place

pub entries_line-unique-buf : (κs : Lfts 4) → Fixes (entries_line.Post κs) (λ r s. s.0.now)
entries_line-unique-buf κs a r₁ r₂ s₁ s₂ p q = p.held ∙ sym q.held

pub block_line-unique : (κs : Lfts 1) → Fixes (block_line.Post κs) (λ r s. r)
block_line-unique κs a r₁ r₂ s₁ s₂ p q = p.place ∙ sym q.place

pub block_line-unique-buf : (κs : Lfts 1) → Fixes (block_line.Post κs) (λ r s. s.0.now)
block_line-unique-buf κs a r₁ r₂ s₁ s₂ p q = p.held ∙ sym q.held

pub refusal_line-unique : (κs : Lfts 1) → Fixes (refusal_line.Post κs) (λ r s. r)
refusal_line-unique κs a r₁ r₂ s₁ s₂ p q = p.place ∙ sym q.place

pub refusal_line-unique-buf : (κs : Lfts 1) → Fixes (refusal_line.Post κs) (λ r s. s.0.now)
refusal_line-unique-buf κs a r₁ r₂ s₁ s₂ p q = p.held ∙ sym q.held

pub words_line-unique : (κs : Lfts 2) → Fixes (words_line.Post κs) (λ r s. r)
words_line-unique κs a r₁ r₂ s₁ s₂ p q = p.place ∙ sym q.place

pub words_line-unique-buf : (κs : Lfts 2) → Fixes (words_line.Post κs) (λ r s. s.0.now)
words_line-unique-buf κs a r₁ r₂ s₁ s₂ p q = p.held ∙ sym q.held

pub taken_line-unique : (κs : Lfts 1) → Fixes (taken_line.Post κs) (λ r s. r)
taken_line-unique κs a r₁ r₂ s₁ s₂ p q = p.place ∙ sym q.place

pub taken_line-unique-buf : (κs : Lfts 1) → Fixes (taken_line.Post κs) (λ r s. s.0.now)
taken_line-unique-buf κs a r₁ r₂ s₁ s₂ p q = p.held ∙ sym q.held

pub word_line-unique : (κs : Lfts 1) → Fixes (word_line.Post κs) (λ r s. r)
word_line-unique κs a r₁ r₂ s₁ s₂ p q = p.place ∙ sym q.place

pub word_line-unique-buf : (κs : Lfts 1) → Fixes (word_line.Post κs) (λ r s. s.0.now)
word_line-unique-buf κs a r₁ r₂ s₁ s₂ p q = p.held ∙ sym q.held

pub blocks_line-unique : (κs : Lfts 1) → Fixes (blocks_line.Post κs) (λ r s. r)
blocks_line-unique κs a r₁ r₂ s₁ s₂ p q = p.place ∙ sym q.place

pub blocks_line-unique-buf : (κs : Lfts 1) → Fixes (blocks_line.Post κs) (λ r s. s.0.now)
blocks_line-unique-buf κs a r₁ r₂ s₁ s₂ p q = p.held ∙ sym q.held

pub view_line-unique : (κs : Lfts 2) → Fixes (view_line.Post κs) (λ r s. r)
view_line-unique κs a r₁ r₂ s₁ s₂ p q = p.place ∙ sym q.place

pub view_line-unique-buf : (κs : Lfts 2) → Fixes (view_line.Post κs) (λ r s. s.0.now)
view_line-unique-buf κs a r₁ r₂ s₁ s₂ p q = p.held ∙ sym q.held

pub packet_line-unique : (κs : Lfts 2) → Fixes (packet_line.Post κs) (λ r s. r)
packet_line-unique κs a r₁ r₂ s₁ s₂ p q = p.place ∙ sym q.place

pub packet_line-unique-buf : (κs : Lfts 2) → Fixes (packet_line.Post κs) (λ r s. s.0.now)
packet_line-unique-buf κs a r₁ r₂ s₁ s₂ p q = p.held ∙ sym q.held
