-- No second answer satisfies a public function's contract. Each statement is about the contract in src/ itself, as
-- rattle reads it. Written by tools/unique. Assumes nothing.
use Rattle.std.proofs.Common.{sym, ◌∙◌}
use contract.Lifetimes.{Lfts}
use Rattle.laws.proofs.Determined.{Fixes}
use Rattle.by_number.proofs.fields.Reads as fields
use Rattle.by_number.proofs.numbers.Reads as numbers
use Rattle.by_number.proofs.numbers_view.Reads as numbers_view
use Rattle.by_number.proofs.words.Reads as words
use Rattle.by_number.proofs.advance.Reads as advance
use Rattle.by_number.proofs.fields_view.Reads as fields_view
use Rattle.by_number.proofs.words_view.Reads as words_view
use Rattle.by_number.proofs.advance_view.Reads as advance_view

pub fields-unique : (κs : Lfts 1) → Fixes (fields.Post κs) (λ r s. r)
fields-unique κs a r₁ r₂ s₁ s₂ p q = p ∙ sym q

pub numbers-unique : (κs : Lfts 2) → Fixes (numbers.Post κs) (λ r s. r)
numbers-unique κs a r₁ r₂ s₁ s₂ p q = p.answer ∙ sym q.answer

pub numbers-unique-out : (κs : Lfts 2) → Fixes (numbers.Post κs) (λ r s. s.1.1.1.1.0.now)
numbers-unique-out κs a r₁ r₂ s₁ s₂ p q = p.filled ∙ sym q.filled

pub numbers_view-unique : (κs : Lfts 2) → Fixes (numbers_view.Post κs) (λ r s. r)
numbers_view-unique κs a r₁ r₂ s₁ s₂ p q = p.answer ∙ sym q.answer

pub numbers_view-unique-out : (κs : Lfts 2) → Fixes (numbers_view.Post κs) (λ r s. s.1.1.1.0.now)
numbers_view-unique-out κs a r₁ r₂ s₁ s₂ p q = p.filled ∙ sym q.filled

pub words-unique : (κs : Lfts 2) → Fixes (words.Post κs) (λ r s. r)
words-unique κs a r₁ r₂ s₁ s₂ p q = p.answer ∙ sym q.answer

pub words-unique-out : (κs : Lfts 2) → Fixes (words.Post κs) (λ r s. s.1.1.1.1.0.now)
words-unique-out κs a r₁ r₂ s₁ s₂ p q = p.filled ∙ sym q.filled

pub advance-unique : (κs : Lfts 2) → Fixes (advance.Post κs) (λ r s. r)
advance-unique κs a r₁ r₂ s₁ s₂ p q = p.answer ∙ sym q.answer

pub advance-unique-out : (κs : Lfts 2) → Fixes (advance.Post κs) (λ r s. s.1.1.1.1.1.0.now)
advance-unique-out κs a r₁ r₂ s₁ s₂ p q = p.filled ∙ sym q.filled

pub fields_view-unique : (κs : Lfts 1) → Fixes (fields_view.Post κs) (λ r s. r)
fields_view-unique κs a r₁ r₂ s₁ s₂ p q = p ∙ sym q

pub words_view-unique : (κs : Lfts 2) → Fixes (words_view.Post κs) (λ r s. r)
words_view-unique κs a r₁ r₂ s₁ s₂ p q = p.answer ∙ sym q.answer

pub words_view-unique-out : (κs : Lfts 2) → Fixes (words_view.Post κs) (λ r s. s.1.1.1.0.now)
words_view-unique-out κs a r₁ r₂ s₁ s₂ p q = p.filled ∙ sym q.filled

pub advance_view-unique : (κs : Lfts 2) → Fixes (advance_view.Post κs) (λ r s. r)
advance_view-unique κs a r₁ r₂ s₁ s₂ p q = p.0 ∙ sym q.0

pub advance_view-unique-out : (κs : Lfts 2) → Fixes (advance_view.Post κs) (λ r s. s.1.1.1.1.0.now)
advance_view-unique-out κs a r₁ r₂ s₁ s₂ p q = p.1 ∙ sym q.1
