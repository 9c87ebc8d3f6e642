-- No second answer satisfies a public function's contract. Each statement is about the contract in src/ itself, as
-- rattle reads it. Written by tools/unique. Assumes nothing.
use Rattle.std.proofs.Common.{sym, ◌∙◌}
use contract.Lifetimes.{Lfts}
use Rattle.laws.proofs.Determined.{Fixes}
use Rattle.numbers.proofs.numbers.Reads as numbers
use Rattle.numbers.proofs.words.Reads as words
use Rattle.numbers.proofs.numbers_in.Reads as numbers_in
use Rattle.numbers.proofs.words_in.Reads as words_in

pub numbers-unique : (κs : Lfts 2) → Fixes (numbers.Post κs) (λ r s. r)
numbers-unique κs a r₁ r₂ s₁ s₂ p q = p.answer ∙ sym q.answer

pub numbers-unique-out : (κs : Lfts 2) → Fixes (numbers.Post κs) (λ r s. s.1.1.1.0.now)
numbers-unique-out κs a r₁ r₂ s₁ s₂ p q = p.filled ∙ sym q.filled

pub words-unique : (κs : Lfts 2) → Fixes (words.Post κs) (λ r s. r)
words-unique κs a r₁ r₂ s₁ s₂ p q = p.answer ∙ sym q.answer

pub words-unique-out : (κs : Lfts 2) → Fixes (words.Post κs) (λ r s. s.1.1.1.0.now)
words-unique-out κs a r₁ r₂ s₁ s₂ p q = p.filled ∙ sym q.filled

pub numbers_in-unique : (κs : Lfts 2) → Fixes (numbers_in.Post κs) (λ r s. r)
numbers_in-unique κs a r₁ r₂ s₁ s₂ p q = p.answer ∙ sym q.answer

pub numbers_in-unique-out : (κs : Lfts 2) → Fixes (numbers_in.Post κs) (λ r s. s.1.1.1.1.0.now)
numbers_in-unique-out κs a r₁ r₂ s₁ s₂ p q = p.filled ∙ sym q.filled

pub words_in-unique : (κs : Lfts 2) → Fixes (words_in.Post κs) (λ r s. r)
words_in-unique κs a r₁ r₂ s₁ s₂ p q = p.answer ∙ sym q.answer

pub words_in-unique-out : (κs : Lfts 2) → Fixes (words_in.Post κs) (λ r s. s.1.1.1.1.0.now)
words_in-unique-out κs a r₁ r₂ s₁ s₂ p q = p.filled ∙ sym q.filled
