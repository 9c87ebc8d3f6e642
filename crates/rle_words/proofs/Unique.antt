-- No second answer satisfies a public function's contract. Each statement is about the contract in src/ itself, as
-- rattle reads it. Written by tools/unique. Assumes nothing.
use Rattle.std.proofs.Common.{sym, ◌∙◌}
use contract.Lifetimes.{Lfts}
use Rattle.laws.proofs.Determined.{Fixes}
use Rattle.rle_words.proofs.count_words.Reads as count_words
use Rattle.rle_words.proofs.fill_words.Reads as fill_words

pub count_words-unique : (κs : Lfts 1) → Fixes (count_words.Post κs) (λ r s. r)
count_words-unique κs a r₁ r₂ s₁ s₂ p q = p ∙ sym q

pub fill_words-unique : (κs : Lfts 2) → Fixes (fill_words.Post κs) (λ r s. r)
fill_words-unique κs a r₁ r₂ s₁ s₂ p q = p.answer ∙ sym q.answer

pub fill_words-unique-out : (κs : Lfts 2) → Fixes (fill_words.Post κs) (λ r s. s.1.0.now)
fill_words-unique-out κs a r₁ r₂ s₁ s₂ p q = p.filled ∙ sym q.filled
