-- No second answer satisfies a public function's contract. Each statement is about the contract in src/ itself, as
-- rattle reads it. Written by tools/unique. Assumes nothing.
use Rattle.std.proofs.Common.{sym, ◌∙◌}
use contract.Lifetimes.{Lfts}
use Rattle.laws.proofs.Determined.{Fixes}
use Rattle.records.proofs.LossRle.new.Reads as LossRle_new
use Rattle.records.proofs.DuplicateRle.new.Reads as DuplicateRle_new
use Rattle.records.proofs.PacketReceiptTimes.new.Reads as PacketReceiptTimes_new
use Rattle.records.proofs.ReceiverReferenceTime.new.Reads as ReceiverReferenceTime_new
use Rattle.records.proofs.DelaySinceLastReceiverReport.new.Reads as DelaySinceLastReceiverReport_new
use Rattle.records.proofs.StatisticsSummary.new.Reads as StatisticsSummary_new
use Rattle.records.proofs.rle_type.Reads as rle_type
use Rattle.records.proofs.ranged_type.Reads as ranged_type
use Rattle.records.proofs.kind_type.Reads as kind_type
use Rattle.records.proofs.rle_of.Reads as rle_of
use Rattle.records.proofs.ranged_of.Reads as ranged_of
use Rattle.records.proofs.kind_of.Reads as kind_of
use Rattle.records.proofs.kind_in.Reads as kind_in

pub LossRle_new-unique-fields : (κs : Lfts 0) → Fixes (LossRle_new.Post κs) (λ r s. r.fields)
LossRle_new-unique-fields κs a r₁ r₂ s₁ s₂ p q = p ∙ sym q

pub DuplicateRle_new-unique-fields : (κs : Lfts 0) → Fixes (DuplicateRle_new.Post κs) (λ r s. r.fields)
DuplicateRle_new-unique-fields κs a r₁ r₂ s₁ s₂ p q = p ∙ sym q

pub PacketReceiptTimes_new-unique-fields : (κs : Lfts 0) → Fixes (PacketReceiptTimes_new.Post κs) (λ r s. r.fields)
PacketReceiptTimes_new-unique-fields κs a r₁ r₂ s₁ s₂ p q = p ∙ sym q

pub ReceiverReferenceTime_new-unique-time : (κs : Lfts 0) → Fixes (ReceiverReferenceTime_new.Post κs) (λ r s. r.time)
ReceiverReferenceTime_new-unique-time κs a r₁ r₂ s₁ s₂ p q = p ∙ sym q

pub DelaySinceLastReceiverReport_new-unique-entries : (κs : Lfts 0)
    → Fixes (DelaySinceLastReceiverReport_new.Post κs) (λ r s. r.entries)
DelaySinceLastReceiverReport_new-unique-entries κs a r₁ r₂ s₁ s₂ p q = p ∙ sym q

pub StatisticsSummary_new-unique-summary : (κs : Lfts 0) → Fixes (StatisticsSummary_new.Post κs) (λ r s. r.summary)
StatisticsSummary_new-unique-summary κs a r₁ r₂ s₁ s₂ p q = p ∙ sym q

pub rle_type-unique : (κs : Lfts 0) → Fixes (rle_type.Post κs) (λ r s. r)
rle_type-unique κs a r₁ r₂ s₁ s₂ p q = p ∙ sym q

pub ranged_type-unique : (κs : Lfts 0) → Fixes (ranged_type.Post κs) (λ r s. r)
ranged_type-unique κs a r₁ r₂ s₁ s₂ p q = p ∙ sym q

pub kind_type-unique : (κs : Lfts 0) → Fixes (kind_type.Post κs) (λ r s. r)
kind_type-unique κs a r₁ r₂ s₁ s₂ p q = p ∙ sym q

pub rle_of-unique : (κs : Lfts 0) → Fixes (rle_of.Post κs) (λ r s. r)
rle_of-unique κs a r₁ r₂ s₁ s₂ p q = p ∙ sym q

pub ranged_of-unique : (κs : Lfts 0) → Fixes (ranged_of.Post κs) (λ r s. r)
ranged_of-unique κs a r₁ r₂ s₁ s₂ p q = p ∙ sym q

pub kind_of-unique : (κs : Lfts 0) → Fixes (kind_of.Post κs) (λ r s. r)
kind_of-unique κs a r₁ r₂ s₁ s₂ p q = p ∙ sym q

pub kind_in-unique : (κs : Lfts 0) → Fixes (kind_in.Post κs) (λ r s. r)
kind_in-unique κs a r₁ r₂ s₁ s₂ p q = p ∙ sym q
