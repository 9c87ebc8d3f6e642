-- No second answer satisfies a public function's contract. Each statement is about the contract in src/ itself, as
-- rattle reads it. Written by tools/unique. Assumes nothing.
use Rattle.std.proofs.Common.{sym, ◌∙◌}
use contract.Lifetimes.{Lfts}
use Rattle.laws.proofs.Determined.{Fixes}
use Rattle.range.proofs.times_two_to.Reads as times_two_to
use Rattle.range.proofs.doubled.Reads as doubled
use Rattle.range.proofs.moved_by.Reads as moved_by
use Rattle.range.proofs.passes.Reads as passes
use Rattle.range.proofs.xr_offset_sequence.Reads as xr_offset_sequence
use Rattle.range.proofs.range_of.Reads as range_of
use Rattle.range.proofs.inside_count.Reads as inside_count
use Rattle.range.proofs.number_at.Reads as number_at
use Rattle.range.proofs.first_fail.Reads as first_fail

pub times_two_to-unique : (κs : Lfts 0) → Fixes (times_two_to.Post κs) (λ r s. r)
times_two_to-unique κs a r₁ r₂ s₁ s₂ p q = p ∙ sym q

pub doubled-unique : (κs : Lfts 0) → Fixes (doubled.Post κs) (λ r s. r)
doubled-unique κs a r₁ r₂ s₁ s₂ p q = p ∙ sym q

pub moved_by-unique : (κs : Lfts 0) → Fixes (moved_by.Post κs) (λ r s. r)
moved_by-unique κs a r₁ r₂ s₁ s₂ p q = p ∙ sym q

pub passes-unique : (κs : Lfts 0) → Fixes (passes.Post κs) (λ r s. r)
passes-unique κs a r₁ r₂ s₁ s₂ p q = p ∙ sym q

pub xr_offset_sequence-unique : (κs : Lfts 0) → Fixes (xr_offset_sequence.Post κs) (λ r s. r)
xr_offset_sequence-unique κs a r₁ r₂ s₁ s₂ p q = p ∙ sym q

pub range_of-unique : (κs : Lfts 0) → Fixes (range_of.Post κs) (λ r s. r)
range_of-unique κs a r₁ r₂ s₁ s₂ p q = p ∙ sym q

pub inside_count-unique : (κs : Lfts 0) → Fixes (inside_count.Post κs) (λ r s. r)
inside_count-unique κs a r₁ r₂ s₁ s₂ p q = p ∙ sym q

pub number_at-unique : (κs : Lfts 0) → Fixes (number_at.Post κs) (λ r s. r)
number_at-unique κs a r₁ r₂ s₁ s₂ p q = p ∙ sym q

pub first_fail-unique : (κs : Lfts 0) → Fixes (first_fail.Post κs) (λ r s. r)
first_fail-unique κs a r₁ r₂ s₁ s₂ p q = p ∙ sym q
