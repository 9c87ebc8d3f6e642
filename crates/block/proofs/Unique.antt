-- No second answer satisfies a public function's contract. Each statement is about the contract in src/ itself, as
-- rattle reads it. Written by tools/unique. Assumes nothing.
use Rattle.std.proofs.Common.{sym, ◌∙◌}
use contract.Lifetimes.{Lfts}
use Rattle.laws.proofs.Determined.{Fixes}
use Rattle.block.proofs.check_length.Reads as check_length
use Rattle.block.proofs.check_chunks.Reads as check_chunks
use Rattle.block.proofs.check_times.Reads as check_times
use Rattle.block.proofs.check_clock.Reads as check_clock
use Rattle.block.proofs.check_echoes.Reads as check_echoes
use Rattle.block.proofs.check_statistics.Reads as check_statistics
use Rattle.block.proofs.check.Reads as check
use Rattle.block.proofs.fields_at.Reads as fields_at
use Rattle.block.proofs.fields.Reads as fields
use Rattle.block.proofs.time.Reads as time
use Rattle.block.proofs.fields_in.Reads as fields_in
use Rattle.block.proofs.time_in.Reads as time_in

pub check_length-unique : (κs : Lfts 1) → Fixes (check_length.Post κs) (λ r s. r)
check_length-unique κs a r₁ r₂ s₁ s₂ p q = p ∙ sym q

pub check_chunks-unique : (κs : Lfts 1) → Fixes (check_chunks.Post κs) (λ r s. r)
check_chunks-unique κs a r₁ r₂ s₁ s₂ p q = p ∙ sym q

pub check_times-unique : (κs : Lfts 1) → Fixes (check_times.Post κs) (λ r s. r)
check_times-unique κs a r₁ r₂ s₁ s₂ p q = p ∙ sym q

pub check_clock-unique : (κs : Lfts 1) → Fixes (check_clock.Post κs) (λ r s. r)
check_clock-unique κs a r₁ r₂ s₁ s₂ p q = p ∙ sym q

pub check_echoes-unique : (κs : Lfts 1) → Fixes (check_echoes.Post κs) (λ r s. r)
check_echoes-unique κs a r₁ r₂ s₁ s₂ p q = p ∙ sym q

pub check_statistics-unique : (κs : Lfts 1) → Fixes (check_statistics.Post κs) (λ r s. r)
check_statistics-unique κs a r₁ r₂ s₁ s₂ p q = p ∙ sym q

pub check-unique : (κs : Lfts 1) → Fixes (check.Post κs) (λ r s. r)
check-unique κs a r₁ r₂ s₁ s₂ p q = p ∙ sym q

pub fields_at-unique : (κs : Lfts 1) → Fixes (fields_at.Post κs) (λ r s. r)
fields_at-unique κs a r₁ r₂ s₁ s₂ p q = p ∙ sym q

pub fields-unique : (κs : Lfts 1) → Fixes (fields.Post κs) (λ r s. r)
fields-unique κs a r₁ r₂ s₁ s₂ p q = p ∙ sym q

pub time-unique : (κs : Lfts 1) → Fixes (time.Post κs) (λ r s. r)
time-unique κs a r₁ r₂ s₁ s₂ p q = p ∙ sym q

pub fields_in-unique : (κs : Lfts 1) → Fixes (fields_in.Post κs) (λ r s. r)
fields_in-unique κs a r₁ r₂ s₁ s₂ p q = p ∙ sym q

pub time_in-unique : (κs : Lfts 1) → Fixes (time_in.Post κs) (λ r s. r)
time_in-unique κs a r₁ r₂ s₁ s₂ p q = p ∙ sym q
