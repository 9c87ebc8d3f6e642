-- No second answer satisfies a public function's contract. Each statement is about the contract in src/ itself, as
-- rattle reads it. Written by tools/unique. Assumes nothing.
use Rattle.std.proofs.Common.{sym, ◌∙◌}
use contract.Lifetimes.{Lfts}
use Rattle.laws.proofs.Determined.{Fixes}
use Rattle.packet_size.proofs.packet_size.Reads as packet_size

pub packet_size-unique : (κs : Lfts 1) → Fixes (packet_size.Post κs) (λ r s. r)
packet_size-unique κs a r₁ r₂ s₁ s₂ p q = p ∙ sym q
