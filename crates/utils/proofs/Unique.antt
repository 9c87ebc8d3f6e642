-- No second answer satisfies a public function's contract. Each statement is about the contract in src/ itself, as
-- rattle reads it. Written by tools/unique. Assumes nothing.
use Rattle.std.proofs.Common.{sym, ◌∙◌}
use contract.Lifetimes.{Lfts}
use Rattle.laws.proofs.Determined.{Fixes}
use Rattle.utils.proofs.pair.Reads as pair
use Rattle.utils.proofs.join16.Reads as join16
use Rattle.utils.proofs.join32.Reads as join32
use Rattle.utils.proofs.byte_at.Reads as byte_at
use Rattle.utils.proofs.u16_from_be_bytes.Reads as u16_from_be_bytes
use Rattle.utils.proofs.u32_from_be_bytes.Reads as u32_from_be_bytes
use Rattle.utils.proofs.u64_from_be_bytes.Reads as u64_from_be_bytes
use Rattle.utils.proofs.load32.Reads as load32
use Rattle.utils.proofs.put16.Reads as put16
use Rattle.utils.proofs.put32.Reads as put32
use Rattle.utils.proofs.put64.Reads as put64
use Rattle.utils.proofs.pad_to_4bytes.Reads as pad_to_4bytes
use Rattle.utils.proofs.part.Reads as part

pub pair-unique : (κs : Lfts 0) → Fixes (pair.Post κs) (λ r s. r)
pair-unique κs a r₁ r₂ s₁ s₂ p q = p ∙ sym q

pub join16-unique : (κs : Lfts 0) → Fixes (join16.Post κs) (λ r s. r)
join16-unique κs a r₁ r₂ s₁ s₂ p q = p ∙ sym q

pub join32-unique : (κs : Lfts 0) → Fixes (join32.Post κs) (λ r s. r)
join32-unique κs a r₁ r₂ s₁ s₂ p q = p ∙ sym q

pub byte_at-unique : (κs : Lfts 1) → Fixes (byte_at.Post κs) (λ r s. r)
byte_at-unique κs a r₁ r₂ s₁ s₂ p q = p ∙ sym q

pub u16_from_be_bytes-unique : (κs : Lfts 1) → Fixes (u16_from_be_bytes.Post κs) (λ r s. r)
u16_from_be_bytes-unique κs a r₁ r₂ s₁ s₂ p q = p ∙ sym q

pub u32_from_be_bytes-unique : (κs : Lfts 1) → Fixes (u32_from_be_bytes.Post κs) (λ r s. r)
u32_from_be_bytes-unique κs a r₁ r₂ s₁ s₂ p q = p ∙ sym q

pub u64_from_be_bytes-unique : (κs : Lfts 1) → Fixes (u64_from_be_bytes.Post κs) (λ r s. r)
u64_from_be_bytes-unique κs a r₁ r₂ s₁ s₂ p q = p ∙ sym q

pub load32-unique : (κs : Lfts 1) → Fixes (load32.Post κs) (λ r s. r)
load32-unique κs a r₁ r₂ s₁ s₂ p q = p ∙ sym q

pub put16-unique-out : (κs : Lfts 1) → Fixes (put16.Post κs) (λ r s. s.0.now)
put16-unique-out κs a r₁ r₂ s₁ s₂ p q = p ∙ sym q

pub put32-unique-out : (κs : Lfts 1) → Fixes (put32.Post κs) (λ r s. s.0.now)
put32-unique-out κs a r₁ r₂ s₁ s₂ p q = p ∙ sym q

pub put64-unique-out : (κs : Lfts 1) → Fixes (put64.Post κs) (λ r s. s.0.now)
put64-unique-out κs a r₁ r₂ s₁ s₂ p q = p ∙ sym q

pub pad_to_4bytes-unique : (κs : Lfts 0) → Fixes (pad_to_4bytes.Post κs) (λ r s. r)
pad_to_4bytes-unique κs a r₁ r₂ s₁ s₂ p q = p ∙ sym q

pub part-unique : (κs : Lfts 1) → Fixes (part.Post κs) (λ r s. r.now)
part-unique κs a r₁ r₂ s₁ s₂ p q = p.0 ∙ sym q.0

pub part-unique-ptr : (κs : Lfts 1) → Fixes (part.Post κs) (λ r s. r.ref_ptr)
part-unique-ptr κs a r₁ r₂ s₁ s₂ p q = p.1 ∙ sym q.1
