-- No second answer satisfies a public function's contract. Each statement is about the contract in src/ itself, as
-- rattle reads it. Written by tools/unique. Assumes nothing.
use Rattle.std.proofs.Common.{sym, ◌∙◌}
use contract.Lifetimes.{Lfts}
use Rattle.laws.proofs.Determined.{Fixes}
use Rattle.xr.proofs.Xr.parse.Reads as Xr_parse
use Rattle.xr.proofs.header.Reads as header
use Rattle.xr.proofs.count.Reads as count
use Rattle.xr.proofs.find.Reads as find
use Rattle.xr.proofs.locate.Reads as locate
use Rattle.xr.proofs.view.Reads as view
use Rattle.xr.proofs.header_data.Reads as header_data
use Rattle.xr.proofs.block_type.Reads as block_type
use Rattle.xr.proofs.type_specific_byte.Reads as type_specific_byte
use Rattle.xr.proofs.block_length.Reads as block_length

pub Xr_parse-unique : (κs : Lfts 1) → Fixes (Xr_parse.Post κs) (λ r s. r)
Xr_parse-unique κs a r₁ r₂ s₁ s₂ p q = p ∙ sym q

pub header-unique : (κs : Lfts 1) → Fixes (header.Post κs) (λ r s. r)
header-unique κs a r₁ r₂ s₁ s₂ p q = p ∙ sym q

pub count-unique : (κs : Lfts 1) → Fixes (count.Post κs) (λ r s. r)
count-unique κs a r₁ r₂ s₁ s₂ p q = p ∙ sym q

pub find-unique : (κs : Lfts 1) → Fixes (find.Post κs) (λ r s. r)
find-unique κs a r₁ r₂ s₁ s₂ p q = p ∙ sym q

pub locate-unique : (κs : Lfts 1) → Fixes (locate.Post κs) (λ r s. r)
locate-unique κs a r₁ r₂ s₁ s₂ p q = p ∙ sym q

pub view-unique : (κs : Lfts 1) → Fixes (view.Post κs) (λ r s. r.now)
view-unique κs a r₁ r₂ s₁ s₂ p q = p.0 ∙ sym q.0

pub view-unique-ptr : (κs : Lfts 1) → Fixes (view.Post κs) (λ r s. r.ref_ptr)
view-unique-ptr κs a r₁ r₂ s₁ s₂ p q = p.1 ∙ sym q.1

pub header_data-unique : (κs : Lfts 1) → Fixes (header_data.Post κs) (λ r s. r)
header_data-unique κs a r₁ r₂ s₁ s₂ p q = p ∙ sym q

pub block_type-unique : (κs : Lfts 0) → Fixes (block_type.Post κs) (λ r s. r)
block_type-unique κs a r₁ r₂ s₁ s₂ p q = p ∙ sym q

pub type_specific_byte-unique : (κs : Lfts 0) → Fixes (type_specific_byte.Post κs) (λ r s. r)
type_specific_byte-unique κs a r₁ r₂ s₁ s₂ p q = p ∙ sym q

pub block_length-unique : (κs : Lfts 0) → Fixes (block_length.Post κs) (λ r s. r)
block_length-unique κs a r₁ r₂ s₁ s₂ p q = p.0 ∙ sym q.0
