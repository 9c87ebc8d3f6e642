-- No second answer satisfies a public function's contract. Each statement is about the contract in src/ itself, as
-- rattle reads it. Written by tools/unique. Assumes nothing.
use Rattle.std.proofs.Common.{sym, ◌∙◌}
use contract.Lifetimes.{Lfts}
use Rattle.laws.proofs.Determined.{Fixes}
use Rattle.swap.proofs.put_word.Reads as put_word
use Rattle.swap.proofs.put_number.Reads as put_number
use Rattle.swap.proofs.swap16.Reads as swap16
use Rattle.swap.proofs.swap32.Reads as swap32

pub put_word-unique-out : (κs : Lfts 2) → Fixes (put_word.Post κs) (λ r s. s.1.1.0.now)
put_word-unique-out κs a r₁ r₂ s₁ s₂ p q = p ∙ sym q

pub put_number-unique-out : (κs : Lfts 2) → Fixes (put_number.Post κs) (λ r s. s.1.1.0.now)
put_number-unique-out κs a r₁ r₂ s₁ s₂ p q = p ∙ sym q

pub swap16-unique : (κs : Lfts 2) → Fixes (swap16.Post κs) (λ r s. r)
swap16-unique κs a r₁ r₂ s₁ s₂ p q = p.past ∙ sym q.past

pub swap16-unique-out : (κs : Lfts 2) → Fixes (swap16.Post κs) (λ r s. s.1.1.0.now)
swap16-unique-out κs a r₁ r₂ s₁ s₂ p q = p.stored ∙ sym q.stored

pub swap32-unique : (κs : Lfts 2) → Fixes (swap32.Post κs) (λ r s. r)
swap32-unique κs a r₁ r₂ s₁ s₂ p q = p.past ∙ sym q.past

pub swap32-unique-out : (κs : Lfts 2) → Fixes (swap32.Post κs) (λ r s. s.1.1.0.now)
swap32-unique-out κs a r₁ r₂ s₁ s₂ p q = p.stored ∙ sym q.stored
