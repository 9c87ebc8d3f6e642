-- No second answer satisfies a public function's contract. Each statement is about the contract in src/ itself, as
-- rattle reads it. Written by tools/unique. Assumes nothing.
use Rattle.std.proofs.Common.{sym, ◌∙◌}
use contract.Lifetimes.{Lfts}
use Rattle.laws.proofs.Determined.{Fixes}
use Rattle.event_lines.proofs.event_line.Reads as event_line
use Rattle.event_lines.proofs.event_lines.Reads as event_lines

pub event_line-unique : (κs : Lfts 1) → Fixes (event_line.Post κs) (λ r s. r)
event_line-unique κs a r₁ r₂ s₁ s₂ p q = p.place ∙ sym q.place

pub event_line-unique-buf : (κs : Lfts 1) → Fixes (event_line.Post κs) (λ r s. s.0.now)
event_line-unique-buf κs a r₁ r₂ s₁ s₂ p q = p.held ∙ sym q.held

pub event_lines-unique : (κs : Lfts 5) → Fixes (event_lines.Post κs) (λ r s. r)
event_lines-unique κs a r₁ r₂ s₁ s₂ p q = p.place ∙ sym q.place

pub event_lines-unique-buf : (κs : Lfts 5) → Fixes (event_lines.Post κs) (λ r s. s.0.now)
event_lines-unique-buf κs a r₁ r₂ s₁ s₂ p q = p.held ∙ sym q.held
