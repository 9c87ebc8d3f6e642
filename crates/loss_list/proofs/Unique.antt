-- No second answer satisfies a public function's contract. Each statement is about the contract in src/ itself, as
-- rattle reads it. Written by tools/unique. Assumes nothing.
use Rattle.std.proofs.Common.{sym, ◌∙◌}
use contract.Lifetimes.{Lfts}
use Rattle.laws.proofs.Determined.{Fixes}
use Rattle.loss_list.proofs.loss_list.Reads as loss_list

pub loss_list-unique : (κs : Lfts 2) → Fixes (loss_list.Post κs) (λ r s. r)
loss_list-unique κs a r₁ r₂ s₁ s₂ p q = p.answer ∙ sym q.answer

pub loss_list-unique-out : (κs : Lfts 2) → Fixes (loss_list.Post κs) (λ r s. s.1.1.1.1.1.0.now)
loss_list-unique-out κs a r₁ r₂ s₁ s₂ p q = p.filled ∙ sym q.filled
