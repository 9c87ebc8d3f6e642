-- No second answer satisfies a public function's contract. Each statement is about the contract in src/ itself, as
-- rattle reads it. Written by tools/unique. Assumes nothing.
use Rattle.std.proofs.Common.{sym, ◌∙◌}
use contract.Lifetimes.{Lfts}
use Rattle.laws.proofs.Determined.{Fixes}
use Rattle.marks.proofs.words.Reads as words

pub words-unique : (κs : Lfts 2) → Fixes (words.Post κs) (λ r s. r)
words-unique κs a r₁ r₂ s₁ s₂ p q = p.answer ∙ sym q.answer

pub words-unique-out : (κs : Lfts 2) → Fixes (words.Post κs) (λ r s. s.1.0.now)
words-unique-out κs a r₁ r₂ s₁ s₂ p q = p.filled ∙ sym q.filled
