-- No second answer satisfies a public function's contract. Each statement is about the contract in src/ itself, as
-- rattle reads it. Written by tools/unique. Assumes nothing.
use Rattle.std.proofs.Common.{sym, ◌∙◌}
use contract.Lifetimes.{Lfts}
use Rattle.laws.proofs.Determined.{Fixes}
use Rattle.print.proofs.send.Reads as send
use Rattle.print.proofs.flush.Reads as flush
use Rattle.print.proofs.byte.Reads as byte
use Rattle.print.proofs.text.Reads as text
use Rattle.print.proofs.decimal.Reads as decimal
use Rattle.print.proofs.number.Reads as number
use Rattle.print.proofs.labelled.Reads as labelled
use Rattle.print.proofs.hex.Reads as hex
use Rattle.print.proofs.line_end.Reads as line_end
use Rattle.print.proofs.list16.Reads as list16
use Rattle.print.proofs.list_pairs.Reads as list_pairs
use Rattle.print.proofs.list_entries.Reads as list_entries
use Rattle.print.proofs.hex_list.Reads as hex_list

pub send-unique : (κs : Lfts 1) → Fixes (send.Post κs) (λ r s. r)
send-unique κs a r₁ r₂ s₁ s₂ p q = p ∙ sym q

pub flush-unique : (κs : Lfts 1) → Fixes (flush.Post κs) (λ r s. r)
flush-unique κs a r₁ r₂ s₁ s₂ p q = p ∙ sym q

pub byte-unique : (κs : Lfts 1) → Fixes (byte.Post κs) (λ r s. r)
byte-unique κs a r₁ r₂ s₁ s₂ p q = p.place ∙ sym q.place

pub byte-unique-buf : (κs : Lfts 1) → Fixes (byte.Post κs) (λ r s. s.0.now)
byte-unique-buf κs a r₁ r₂ s₁ s₂ p q = p.held ∙ sym q.held

pub text-unique : (κs : Lfts 2) → Fixes (text.Post κs) (λ r s. r)
text-unique κs a r₁ r₂ s₁ s₂ p q = p.place ∙ sym q.place

pub text-unique-buf : (κs : Lfts 2) → Fixes (text.Post κs) (λ r s. s.0.now)
text-unique-buf κs a r₁ r₂ s₁ s₂ p q = p.held ∙ sym q.held

pub decimal-unique : (κs : Lfts 1) → Fixes (decimal.Post κs) (λ r s. r)
decimal-unique κs a r₁ r₂ s₁ s₂ p q = p.place ∙ sym q.place

pub decimal-unique-buf : (κs : Lfts 1) → Fixes (decimal.Post κs) (λ r s. s.0.now)
decimal-unique-buf κs a r₁ r₂ s₁ s₂ p q = p.held ∙ sym q.held

pub number-unique : (κs : Lfts 1) → Fixes (number.Post κs) (λ r s. r)
number-unique κs a r₁ r₂ s₁ s₂ p q = p.place ∙ sym q.place

pub number-unique-buf : (κs : Lfts 1) → Fixes (number.Post κs) (λ r s. s.0.now)
number-unique-buf κs a r₁ r₂ s₁ s₂ p q = p.held ∙ sym q.held

pub labelled-unique : (κs : Lfts 2) → Fixes (labelled.Post κs) (λ r s. r)
labelled-unique κs a r₁ r₂ s₁ s₂ p q = p.place ∙ sym q.place

pub labelled-unique-buf : (κs : Lfts 2) → Fixes (labelled.Post κs) (λ r s. s.0.now)
labelled-unique-buf κs a r₁ r₂ s₁ s₂ p q = p.held ∙ sym q.held

pub hex-unique : (κs : Lfts 1) → Fixes (hex.Post κs) (λ r s. r)
hex-unique κs a r₁ r₂ s₁ s₂ p q = p.place ∙ sym q.place

pub hex-unique-buf : (κs : Lfts 1) → Fixes (hex.Post κs) (λ r s. s.0.now)
hex-unique-buf κs a r₁ r₂ s₁ s₂ p q = p.held ∙ sym q.held

pub line_end-unique : (κs : Lfts 1) → Fixes (line_end.Post κs) (λ r s. r)
line_end-unique κs a r₁ r₂ s₁ s₂ p q = p.place ∙ sym q.place

pub line_end-unique-buf : (κs : Lfts 1) → Fixes (line_end.Post κs) (λ r s. s.0.now)
line_end-unique-buf κs a r₁ r₂ s₁ s₂ p q = p.held ∙ sym q.held

pub list16-unique : (κs : Lfts 2) → Fixes (list16.Post κs) (λ r s. r)
list16-unique κs a r₁ r₂ s₁ s₂ p q = p.place ∙ sym q.place

pub list16-unique-buf : (κs : Lfts 2) → Fixes (list16.Post κs) (λ r s. s.0.now)
list16-unique-buf κs a r₁ r₂ s₁ s₂ p q = p.held ∙ sym q.held

pub list_pairs-unique : (κs : Lfts 3) → Fixes (list_pairs.Post κs) (λ r s. r)
list_pairs-unique κs a r₁ r₂ s₁ s₂ p q = p.place ∙ sym q.place

pub list_pairs-unique-buf : (κs : Lfts 3) → Fixes (list_pairs.Post κs) (λ r s. s.0.now)
list_pairs-unique-buf κs a r₁ r₂ s₁ s₂ p q = p.held ∙ sym q.held

pub list_entries-unique : (κs : Lfts 4) → Fixes (list_entries.Post κs) (λ r s. r)
list_entries-unique κs a r₁ r₂ s₁ s₂ p q = p.place ∙ sym q.place

pub list_entries-unique-buf : (κs : Lfts 4) → Fixes (list_entries.Post κs) (λ r s. s.0.now)
list_entries-unique-buf κs a r₁ r₂ s₁ s₂ p q = p.held ∙ sym q.held

pub hex_list-unique : (κs : Lfts 2) → Fixes (hex_list.Post κs) (λ r s. r)
hex_list-unique κs a r₁ r₂ s₁ s₂ p q = p.place ∙ sym q.place

pub hex_list-unique-buf : (κs : Lfts 2) → Fixes (hex_list.Post κs) (λ r s. s.0.now)
hex_list-unique-buf κs a r₁ r₂ s₁ s₂ p q = p.held ∙ sym q.held
