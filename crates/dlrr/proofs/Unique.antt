-- No second answer satisfies a public function's contract. Each statement is about the contract in src/ itself, as
-- rattle reads it. Written by tools/unique. Assumes nothing.
use Rattle.std.proofs.Common.{sym, ◌∙◌}
use contract.Lifetimes.{Lfts}
use Rattle.laws.proofs.Determined.{Fixes}
use Rattle.dlrr.proofs.count.Reads as count
use Rattle.dlrr.proofs.entries.Reads as entries
use Rattle.dlrr.proofs.entries_in.Reads as entries_in

pub count-unique : (κs : Lfts 1) → Fixes (count.Post κs) (λ r s. r)
count-unique κs a r₁ r₂ s₁ s₂ p q = p ∙ sym q

pub entries-unique : (κs : Lfts 4) → Fixes (entries.Post κs) (λ r s. r)
entries-unique κs a r₁ r₂ s₁ s₂ p q = p.answer ∙ sym q.answer

pub entries-unique-ssrcs : (κs : Lfts 4) → Fixes (entries.Post κs) (λ r s. s.1.1.0.now)
entries-unique-ssrcs κs a r₁ r₂ s₁ s₂ p q = p.ssrcs ∙ sym q.ssrcs

pub entries-unique-lasts : (κs : Lfts 4) → Fixes (entries.Post κs) (λ r s. s.1.1.1.0.now)
entries-unique-lasts κs a r₁ r₂ s₁ s₂ p q = p.lasts ∙ sym q.lasts

pub entries-unique-delays : (κs : Lfts 4) → Fixes (entries.Post κs) (λ r s. s.1.1.1.1.0.now)
entries-unique-delays κs a r₁ r₂ s₁ s₂ p q = p.delays ∙ sym q.delays

pub entries_in-unique : (κs : Lfts 4) → Fixes (entries_in.Post κs) (λ r s. r)
entries_in-unique κs a r₁ r₂ s₁ s₂ p q = p.answer ∙ sym q.answer

pub entries_in-unique-ssrcs : (κs : Lfts 4) → Fixes (entries_in.Post κs) (λ r s. s.1.1.1.0.now)
entries_in-unique-ssrcs κs a r₁ r₂ s₁ s₂ p q = p.ssrcs ∙ sym q.ssrcs

pub entries_in-unique-lasts : (κs : Lfts 4) → Fixes (entries_in.Post κs) (λ r s. s.1.1.1.1.0.now)
entries_in-unique-lasts κs a r₁ r₂ s₁ s₂ p q = p.lasts ∙ sym q.lasts

pub entries_in-unique-delays : (κs : Lfts 4) → Fixes (entries_in.Post κs) (λ r s. s.1.1.1.1.1.0.now)
entries_in-unique-delays κs a r₁ r₂ s₁ s₂ p q = p.delays ∙ sym q.delays
