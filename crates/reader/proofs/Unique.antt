-- No second answer satisfies a public function's contract. Each statement is about the contract in src/ itself, as
-- rattle reads it. Written by tools/unique. Assumes nothing.
use Rattle.std.proofs.Common.{sym, ◌∙◌}
use contract.Lifetimes.{Lfts}
use Rattle.laws.proofs.Determined.{Fixes}
use Rattle.reader.proofs.view_at.Reads as view_at
use Rattle.reader.proofs.next_place.Reads as next_place
use Rattle.reader.proofs.view_from.Reads as view_from
use Rattle.reader.proofs.moved_from.Reads as moved_from

pub view_at-unique : (κs : Lfts 1) → Fixes (view_at.Post κs) (λ r s. r.now)
view_at-unique κs a r₁ r₂ s₁ s₂ p q = p.0 ∙ sym q.0

pub view_at-unique-ptr : (κs : Lfts 1) → Fixes (view_at.Post κs) (λ r s. r.ref_ptr)
view_at-unique-ptr κs a r₁ r₂ s₁ s₂ p q = p.1 ∙ sym q.1

pub next_place-unique : (κs : Lfts 1) → Fixes (next_place.Post κs) (λ r s. r)
next_place-unique κs a r₁ r₂ s₁ s₂ p q = p ∙ sym q

pub view_from-unique : (κs : Lfts 1) → Fixes (view_from.Post κs) (λ r s. r.now)
view_from-unique κs a r₁ r₂ s₁ s₂ p q = p.0 ∙ sym q.0

pub view_from-unique-ptr : (κs : Lfts 1) → Fixes (view_from.Post κs) (λ r s. r.ref_ptr)
view_from-unique-ptr κs a r₁ r₂ s₁ s₂ p q = p.1 ∙ sym q.1

pub moved_from-unique : (κs : Lfts 1) → Fixes (moved_from.Post κs) (λ r s. r)
moved_from-unique κs a r₁ r₂ s₁ s₂ p q = p ∙ sym q
