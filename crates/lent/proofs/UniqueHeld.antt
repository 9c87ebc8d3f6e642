-- No second answer satisfies the generic functions' contracts, at whatever type they are called: T, with what its
-- bounds bring; nor that of `Marked::mark`, at each of its three types. Written by hand, and tools/unique sees that none
-- is missing; the other functions' statements are in Unique. Assumes nothing.
use Rattle.std.proofs.Common.{sym, ◌∙◌}
use contract.Lifetimes.{Lfts}
use Rattle.laws.proofs.Determined.{Fixes}
use Rattle.lent.proofs.fill.Reads as fill
use Rattle.lent.proofs.stands.Reads as stands
use Rattle.lent.proofs.U8Marked.mark.Reads as mark8
use Rattle.lent.proofs.U16Marked.mark.Reads as mark16
use Rattle.lent.proofs.U32Marked.mark.Reads as mark32

pub fill-unique-list : (T : _) (laws : _) (copy : _) (marked : _) (marked_dict : _) (clone : _) (clone_dict : _) (eq : _) (eq_dict : _) (κs : Lfts 2)
    → Fixes (fill.Post T laws copy marked marked_dict clone clone_dict eq eq_dict κs) (λ r s. s.0.now)
fill-unique-list T laws copy marked marked_dict clone clone_dict eq eq_dict κs a r₁ r₂ s₁ s₂ p q = p ∙ sym q

pub stands-unique : (T : _) (laws : _) (copy : _) (marked : _) (marked_dict : _) (clone : _) (clone_dict : _) (eq : _) (eq_dict : _) (κs : Lfts 2)
    → Fixes (stands.Post T laws copy marked marked_dict clone clone_dict eq eq_dict κs) (λ r s. r)
stands-unique T laws copy marked marked_dict clone clone_dict eq eq_dict κs a r₁ r₂ s₁ s₂ p q = p ∙ sym q

pub mark8-unique : (κs : Lfts 0) → Fixes (mark8.Post κs) (λ r s. r)
mark8-unique κs a r₁ r₂ s₁ s₂ p q = p ∙ sym q

pub mark16-unique : (κs : Lfts 0) → Fixes (mark16.Post κs) (λ r s. r)
mark16-unique κs a r₁ r₂ s₁ s₂ p q = p ∙ sym q

pub mark32-unique : (κs : Lfts 0) → Fixes (mark32.Post κs) (λ r s. r)
mark32-unique κs a r₁ r₂ s₁ s₂ p q = p ∙ sym q
