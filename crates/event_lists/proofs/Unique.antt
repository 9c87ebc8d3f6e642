-- No second answer satisfies a public function's contract. Each statement is about the contract in src/ itself, as
-- rattle reads it. Written by tools/unique. Assumes nothing.
use Rattle.std.proofs.Common.{sym, ◌∙◌}
use contract.Lifetimes.{Lfts}
use Rattle.laws.proofs.Determined.{Fixes}
use Rattle.event_lists.proofs.put.Reads as put
use Rattle.event_lists.proofs.put_tags.Reads as put_tags
use Rattle.event_lists.proofs.put_word.Reads as put_word
use Rattle.event_lists.proofs.event_of.Reads as event_of

pub put-unique : (κs : Lfts 4) → Fixes (put.Post κs) (λ r s. r)
put-unique κs a r₁ r₂ s₁ s₂ p q = p.past ∙ sym q.past

pub put-unique-tags : (κs : Lfts 4) → Fixes (put.Post κs) (λ r s. s.0.now)
put-unique-tags κs a r₁ r₂ s₁ s₂ p q = p.tags ∙ sym q.tags

pub put-unique-numbers : (κs : Lfts 4) → Fixes (put.Post κs) (λ r s. s.1.0.now)
put-unique-numbers κs a r₁ r₂ s₁ s₂ p q = p.numbers ∙ sym q.numbers

pub put-unique-values : (κs : Lfts 4) → Fixes (put.Post κs) (λ r s. s.1.1.0.now)
put-unique-values κs a r₁ r₂ s₁ s₂ p q = p.values ∙ sym q.values

pub put-unique-sums : (κs : Lfts 4) → Fixes (put.Post κs) (λ r s. s.1.1.1.0.now)
put-unique-sums κs a r₁ r₂ s₁ s₂ p q = p.sums ∙ sym q.sums

pub put_tags-unique-tags : (κs : Lfts 1) → Fixes (put_tags.Post κs) (λ r s. s.0.now)
put_tags-unique-tags κs a r₁ r₂ s₁ s₂ p q = p ∙ sym q

pub put_word-unique-tags : (κs : Lfts 2) → Fixes (put_word.Post κs) (λ r s. s.0.now)
put_word-unique-tags κs a r₁ r₂ s₁ s₂ p q = p.0 ∙ sym q.0

pub put_word-unique-numbers : (κs : Lfts 2) → Fixes (put_word.Post κs) (λ r s. s.1.0.now)
put_word-unique-numbers κs a r₁ r₂ s₁ s₂ p q = p.1.0 ∙ sym q.1.0

pub put_word-unique : (κs : Lfts 2) → Fixes (put_word.Post κs) (λ r s. r)
put_word-unique κs a r₁ r₂ s₁ s₂ p q = p.1.1 ∙ sym q.1.1

pub event_of-unique : (κs : Lfts 0) → Fixes (event_of.Post κs) (λ r s. r)
event_of-unique κs a r₁ r₂ s₁ s₂ p q = p ∙ sym q
