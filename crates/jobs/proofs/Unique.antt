-- No second answer satisfies a public function's contract. Each statement is about the contract in src/ itself, as
-- rattle reads it. Written by tools/unique. Assumes nothing.
use Rattle.std.proofs.Common.{sym, ◌∙◌}
use contract.Lifetimes.{Lfts}
use Rattle.laws.proofs.Determined.{Fixes}
use Rattle.jobs.proofs.is_whole.Reads as is_whole
use Rattle.jobs.proofs.kind_at.Reads as kind_at
use Rattle.jobs.proofs.body_at.Reads as body_at
use Rattle.jobs.proofs.whole_kind.Reads as whole_kind
use Rattle.jobs.proofs.whole_body.Reads as whole_body
use Rattle.jobs.proofs.next_at.Reads as next_at
use Rattle.jobs.proofs.is_header.Reads as is_header
use Rattle.jobs.proofs.kind_of.Reads as kind_of

pub is_whole-unique : (κs : Lfts 1) → Fixes (is_whole.Post κs) (λ r s. r)
is_whole-unique κs a r₁ r₂ s₁ s₂ p q = p ∙ sym q

pub kind_at-unique : (κs : Lfts 1) → Fixes (kind_at.Post κs) (λ r s. r)
kind_at-unique κs a r₁ r₂ s₁ s₂ p q = p ∙ sym q

pub body_at-unique : (κs : Lfts 1) → Fixes (body_at.Post κs) (λ r s. r.now)
body_at-unique κs a r₁ r₂ s₁ s₂ p q = p.0 ∙ sym q.0

pub body_at-unique-ptr : (κs : Lfts 1) → Fixes (body_at.Post κs) (λ r s. r.ref_ptr)
body_at-unique-ptr κs a r₁ r₂ s₁ s₂ p q = p.1 ∙ sym q.1

pub whole_kind-unique : (κs : Lfts 1) → Fixes (whole_kind.Post κs) (λ r s. r)
whole_kind-unique κs a r₁ r₂ s₁ s₂ p q = p ∙ sym q

pub whole_body-unique : (κs : Lfts 1) → Fixes (whole_body.Post κs) (λ r s. r.now)
whole_body-unique κs a r₁ r₂ s₁ s₂ p q = p ∙ sym q

pub next_at-unique : (κs : Lfts 1) → Fixes (next_at.Post κs) (λ r s. r)
next_at-unique κs a r₁ r₂ s₁ s₂ p q = p ∙ sym q

pub is_header-unique : (κs : Lfts 1) → Fixes (is_header.Post κs) (λ r s. r)
is_header-unique κs a r₁ r₂ s₁ s₂ p q = p ∙ sym q

pub kind_of-unique : (κs : Lfts 0) → Fixes (kind_of.Post κs) (λ r s. r)
kind_of-unique κs a r₁ r₂ s₁ s₂ p q = p ∙ sym q
