-- No second answer satisfies a public function's contract. Each statement is about the contract in src/ itself, as
-- rattle reads it. Written by tools/unique. Assumes nothing.
use Rattle.std.proofs.Common.{sym, ◌∙◌}
use contract.Lifetimes.{Lfts}
use Rattle.laws.proofs.Determined.{Fixes}
use Rattle.little_endian.proofs.load16.Reads as load16
use Rattle.little_endian.proofs.load32.Reads as load32
use Rattle.little_endian.proofs.u16_from_le_bytes.Reads as u16_from_le_bytes
use Rattle.little_endian.proofs.u32_from_le_bytes.Reads as u32_from_le_bytes

pub load16-unique : (κs : Lfts 1) → Fixes (load16.Post κs) (λ r s. r)
load16-unique κs a r₁ r₂ s₁ s₂ p q = p ∙ sym q

pub load32-unique : (κs : Lfts 1) → Fixes (load32.Post κs) (λ r s. r)
load32-unique κs a r₁ r₂ s₁ s₂ p q = p ∙ sym q

pub u16_from_le_bytes-unique : (κs : Lfts 1) → Fixes (u16_from_le_bytes.Post κs) (λ r s. r)
u16_from_le_bytes-unique κs a r₁ r₂ s₁ s₂ p q = p ∙ sym q

pub u32_from_le_bytes-unique : (κs : Lfts 1) → Fixes (u32_from_le_bytes.Post κs) (λ r s. r)
u32_from_le_bytes-unique κs a r₁ r₂ s₁ s₂ p q = p ∙ sym q
