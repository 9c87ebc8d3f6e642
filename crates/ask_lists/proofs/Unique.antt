-- No second answer satisfies a public function's contract. Each statement is about the contract in src/ itself, as
-- rattle reads it. Written by tools/unique. Assumes nothing.
use Rattle.std.proofs.Common.{sym, ◌∙◌}
use contract.Lifetimes.{Lfts}
use Rattle.laws.proofs.Determined.{Fixes}
use Rattle.ask_lists.proofs.numbers.Reads as numbers
use Rattle.ask_lists.proofs.words.Reads as words
use Rattle.ask_lists.proofs.made.Reads as made
use Rattle.ask_lists.proofs.pairs.Reads as pairs
use Rattle.ask_lists.proofs.entries.Reads as entries
use Rattle.ask_lists.proofs.stretch.Reads as stretch

pub numbers-unique : (κs : Lfts 2) → Fixes (numbers.Post κs) (λ r s. r)
numbers-unique κs a r₁ r₂ s₁ s₂ p q = p.place ∙ sym q.place

pub numbers-unique-buf : (κs : Lfts 2) → Fixes (numbers.Post κs) (λ r s. s.1.1.1.1.1.0.now)
numbers-unique-buf κs a r₁ r₂ s₁ s₂ p q = p.held ∙ sym q.held

pub words-unique : (κs : Lfts 2) → Fixes (words.Post κs) (λ r s. r)
words-unique κs a r₁ r₂ s₁ s₂ p q = p.place ∙ sym q.place

pub words-unique-buf : (κs : Lfts 2) → Fixes (words.Post κs) (λ r s. s.1.1.1.1.1.0.now)
words-unique-buf κs a r₁ r₂ s₁ s₂ p q = p.held ∙ sym q.held

pub made-unique : (κs : Lfts 2) → Fixes (made.Post κs) (λ r s. r)
made-unique κs a r₁ r₂ s₁ s₂ p q = p.place ∙ sym q.place

pub made-unique-buf : (κs : Lfts 2) → Fixes (made.Post κs) (λ r s. s.1.1.0.now)
made-unique-buf κs a r₁ r₂ s₁ s₂ p q = p.held ∙ sym q.held

pub pairs-unique : (κs : Lfts 2) → Fixes (pairs.Post κs) (λ r s. r)
pairs-unique κs a r₁ r₂ s₁ s₂ p q = p.place ∙ sym q.place

pub pairs-unique-buf : (κs : Lfts 2) → Fixes (pairs.Post κs) (λ r s. s.1.1.1.1.0.now)
pairs-unique-buf κs a r₁ r₂ s₁ s₂ p q = p.held ∙ sym q.held

pub entries-unique : (κs : Lfts 2) → Fixes (entries.Post κs) (λ r s. r)
entries-unique κs a r₁ r₂ s₁ s₂ p q = p.place ∙ sym q.place

pub entries-unique-buf : (κs : Lfts 2) → Fixes (entries.Post κs) (λ r s. s.1.1.1.1.0.now)
entries-unique-buf κs a r₁ r₂ s₁ s₂ p q = p.held ∙ sym q.held

pub stretch-unique : (κs : Lfts 2) → Fixes (stretch.Post κs) (λ r s. r)
stretch-unique κs a r₁ r₂ s₁ s₂ p q = p.place ∙ sym q.place

pub stretch-unique-buf : (κs : Lfts 2) → Fixes (stretch.Post κs) (λ r s. s.1.1.1.1.1.1.0.now)
stretch-unique-buf κs a r₁ r₂ s₁ s₂ p q = p.held ∙ sym q.held
