-- No second answer satisfies a public function's contract. Each statement is about the contract in src/ itself, as
-- rattle reads it. Written by tools/unique. Assumes nothing.
use Rattle.std.proofs.Common.{sym, ◌∙◌}
use contract.Lifetimes.{Lfts}
use Rattle.laws.proofs.Determined.{Fixes}
use Rattle.xport.proofs.xr_count.Reads as xr_count
use Rattle.xport.proofs.xr_locate.Reads as xr_locate
use Rattle.xport.proofs.xr_fields.Reads as xr_fields
use Rattle.xport.proofs.xr_time.Reads as xr_time
use Rattle.xport.proofs.xr_numbers.Reads as xr_numbers
use Rattle.xport.proofs.xr_numbers_view.Reads as xr_numbers_view
use Rattle.xport.proofs.xr_words.Reads as xr_words
use Rattle.xport.proofs.xr_pairs.Reads as xr_pairs
use Rattle.xport.proofs.xr_entries.Reads as xr_entries
use Rattle.xport.proofs.xr_chunk.Reads as xr_chunk
use Rattle.xport.proofs.xr_words_from_marks.Reads as xr_words_from_marks
use Rattle.xport.proofs.xr_write_plain.Reads as xr_write_plain
use Rattle.xport.proofs.xr_write_careful.Reads as xr_write_careful
use Rattle.xport.proofs.xr_cursor.Reads as xr_cursor
use Rattle.xport.proofs.xr_portions_start.Reads as xr_portions_start
use Rattle.xport.proofs.xr_follow.Reads as xr_follow
use Rattle.xport.proofs.xr_parse.Reads as xr_parse
use Rattle.xport.proofs.xr_block_at.Reads as xr_block_at
use Rattle.xport.proofs.xr_fields_view.Reads as xr_fields_view
use Rattle.xport.proofs.xr_summary_view.Reads as xr_summary_view
use Rattle.xport.proofs.xr_summary.Reads as xr_summary
use Rattle.xport.proofs.xr_time_view.Reads as xr_time_view
use Rattle.xport.proofs.xr_words_view.Reads as xr_words_view
use Rattle.xport.proofs.xr_pairs_view.Reads as xr_pairs_view
use Rattle.xport.proofs.xr_entries_view.Reads as xr_entries_view
use Rattle.xport.proofs.xr_cursor_view.Reads as xr_cursor_view
use Rattle.xport.proofs.xr_chunk_of.Reads as xr_chunk_of

pub xr_count-unique : (κs : Lfts 1) → Fixes (xr_count.Post κs) (λ r s. r)
xr_count-unique κs a r₁ r₂ s₁ s₂ p q = p ∙ sym q

pub xr_locate-unique : (κs : Lfts 1) → Fixes (xr_locate.Post κs) (λ r s. r)
xr_locate-unique κs a r₁ r₂ s₁ s₂ p q = p ∙ sym q

pub xr_fields-unique : (κs : Lfts 1) → Fixes (xr_fields.Post κs) (λ r s. r)
xr_fields-unique κs a r₁ r₂ s₁ s₂ p q = p ∙ sym q

pub xr_time-unique : (κs : Lfts 1) → Fixes (xr_time.Post κs) (λ r s. r)
xr_time-unique κs a r₁ r₂ s₁ s₂ p q = p ∙ sym q

pub xr_numbers-unique : (κs : Lfts 2) → Fixes (xr_numbers.Post κs) (λ r s. r)
xr_numbers-unique κs a r₁ r₂ s₁ s₂ p q = p.answer ∙ sym q.answer

pub xr_numbers-unique-out : (κs : Lfts 2) → Fixes (xr_numbers.Post κs) (λ r s. s.1.1.1.1.0.now)
xr_numbers-unique-out κs a r₁ r₂ s₁ s₂ p q = p.filled ∙ sym q.filled

pub xr_numbers_view-unique : (κs : Lfts 2) → Fixes (xr_numbers_view.Post κs) (λ r s. r)
xr_numbers_view-unique κs a r₁ r₂ s₁ s₂ p q = p.answer ∙ sym q.answer

pub xr_numbers_view-unique-out : (κs : Lfts 2) → Fixes (xr_numbers_view.Post κs) (λ r s. s.1.1.1.0.now)
xr_numbers_view-unique-out κs a r₁ r₂ s₁ s₂ p q = p.filled ∙ sym q.filled

pub xr_words-unique : (κs : Lfts 2) → Fixes (xr_words.Post κs) (λ r s. r)
xr_words-unique κs a r₁ r₂ s₁ s₂ p q = p.answer ∙ sym q.answer

pub xr_words-unique-out : (κs : Lfts 2) → Fixes (xr_words.Post κs) (λ r s. s.1.1.1.1.0.now)
xr_words-unique-out κs a r₁ r₂ s₁ s₂ p q = p.filled ∙ sym q.filled

pub xr_pairs-unique : (κs : Lfts 3) → Fixes (xr_pairs.Post κs) (λ r s. r)
xr_pairs-unique κs a r₁ r₂ s₁ s₂ p q = p.answer ∙ sym q.answer

pub xr_pairs-unique-numbers : (κs : Lfts 3) → Fixes (xr_pairs.Post κs) (λ r s. s.1.1.1.0.now)
xr_pairs-unique-numbers κs a r₁ r₂ s₁ s₂ p q = p.numbers ∙ sym q.numbers

pub xr_pairs-unique-times : (κs : Lfts 3) → Fixes (xr_pairs.Post κs) (λ r s. s.1.1.1.1.0.now)
xr_pairs-unique-times κs a r₁ r₂ s₁ s₂ p q = p.times ∙ sym q.times

pub xr_entries-unique : (κs : Lfts 4) → Fixes (xr_entries.Post κs) (λ r s. r)
xr_entries-unique κs a r₁ r₂ s₁ s₂ p q = p.answer ∙ sym q.answer

pub xr_entries-unique-ssrcs : (κs : Lfts 4) → Fixes (xr_entries.Post κs) (λ r s. s.1.1.1.0.now)
xr_entries-unique-ssrcs κs a r₁ r₂ s₁ s₂ p q = p.ssrcs ∙ sym q.ssrcs

pub xr_entries-unique-lasts : (κs : Lfts 4) → Fixes (xr_entries.Post κs) (λ r s. s.1.1.1.1.0.now)
xr_entries-unique-lasts κs a r₁ r₂ s₁ s₂ p q = p.lasts ∙ sym q.lasts

pub xr_entries-unique-delays : (κs : Lfts 4) → Fixes (xr_entries.Post κs) (λ r s. s.1.1.1.1.1.0.now)
xr_entries-unique-delays κs a r₁ r₂ s₁ s₂ p q = p.delays ∙ sym q.delays

pub xr_chunk-unique : (κs : Lfts 1) → Fixes (xr_chunk.Post κs) (λ r s. r)
xr_chunk-unique κs a r₁ r₂ s₁ s₂ p q = p.answer ∙ sym q.answer

pub xr_chunk-unique-out : (κs : Lfts 1) → Fixes (xr_chunk.Post κs) (λ r s. s.1.1.0.now)
xr_chunk-unique-out κs a r₁ r₂ s₁ s₂ p q = p.filled ∙ sym q.filled

pub xr_words_from_marks-unique : (κs : Lfts 2) → Fixes (xr_words_from_marks.Post κs) (λ r s. r)
xr_words_from_marks-unique κs a r₁ r₂ s₁ s₂ p q = p.answer ∙ sym q.answer

pub xr_words_from_marks-unique-out : (κs : Lfts 2) → Fixes (xr_words_from_marks.Post κs) (λ r s. s.1.0.now)
xr_words_from_marks-unique-out κs a r₁ r₂ s₁ s₂ p q = p.filled ∙ sym q.filled

pub xr_write_plain-unique : (κs : Lfts 2) → Fixes (xr_write_plain.Post κs) (λ r s. r)
xr_write_plain-unique κs a r₁ r₂ s₁ s₂ p q = p.answer ∙ sym q.answer

pub xr_write_plain-unique-out : (κs : Lfts 2) → Fixes (xr_write_plain.Post κs) (λ r s. s.1.0.now)
xr_write_plain-unique-out κs a r₁ r₂ s₁ s₂ p q = p.filled ∙ sym q.filled

pub xr_write_careful-unique : (κs : Lfts 2) → Fixes (xr_write_careful.Post κs) (λ r s. r)
xr_write_careful-unique κs a r₁ r₂ s₁ s₂ p q = p.answer ∙ sym q.answer

pub xr_write_careful-unique-out : (κs : Lfts 2) → Fixes (xr_write_careful.Post κs) (λ r s. s.1.0.now)
xr_write_careful-unique-out κs a r₁ r₂ s₁ s₂ p q = p.filled ∙ sym q.filled

pub xr_cursor-unique : (κs : Lfts 2) → Fixes (xr_cursor.Post κs) (λ r s. r)
xr_cursor-unique κs a r₁ r₂ s₁ s₂ p q = p.answer ∙ sym q.answer

pub xr_cursor-unique-out : (κs : Lfts 2) → Fixes (xr_cursor.Post κs) (λ r s. s.1.1.1.1.1.1.1.0.now)
xr_cursor-unique-out κs a r₁ r₂ s₁ s₂ p q = p.filled ∙ sym q.filled

pub xr_portions_start-unique : (κs : Lfts 0) → Fixes (xr_portions_start.Post κs) (λ r s. r)
xr_portions_start-unique κs a r₁ r₂ s₁ s₂ p q = p ∙ sym q

pub xr_follow-unique : (κs : Lfts 5) → Fixes (xr_follow.Post κs) (λ r s. r)
xr_follow-unique κs a r₁ r₂ s₁ s₂ p q = p.answer ∙ sym q.answer

pub xr_follow-unique-tags : (κs : Lfts 5) → Fixes (xr_follow.Post κs) (λ r s. s.1.1.0.now)
xr_follow-unique-tags κs a r₁ r₂ s₁ s₂ p q = p.tags ∙ sym q.tags

pub xr_follow-unique-numbers : (κs : Lfts 5) → Fixes (xr_follow.Post κs) (λ r s. s.1.1.1.0.now)
xr_follow-unique-numbers κs a r₁ r₂ s₁ s₂ p q = p.numbers ∙ sym q.numbers

pub xr_follow-unique-values : (κs : Lfts 5) → Fixes (xr_follow.Post κs) (λ r s. s.1.1.1.1.0.now)
xr_follow-unique-values κs a r₁ r₂ s₁ s₂ p q = p.values ∙ sym q.values

pub xr_parse-unique : (κs : Lfts 1) → Fixes (xr_parse.Post κs) (λ r s. r)
xr_parse-unique κs a r₁ r₂ s₁ s₂ p q = p ∙ sym q

pub xr_block_at-unique : (κs : Lfts 1) → Fixes (xr_block_at.Post κs) (λ r s. r)
xr_block_at-unique κs a r₁ r₂ s₁ s₂ p q = p ∙ sym q

pub xr_fields_view-unique : (κs : Lfts 1) → Fixes (xr_fields_view.Post κs) (λ r s. r)
xr_fields_view-unique κs a r₁ r₂ s₁ s₂ p q = p ∙ sym q

pub xr_summary_view-unique : (κs : Lfts 1) → Fixes (xr_summary_view.Post κs) (λ r s. r)
xr_summary_view-unique κs a r₁ r₂ s₁ s₂ p q = p ∙ sym q

pub xr_summary-unique : (κs : Lfts 1) → Fixes (xr_summary.Post κs) (λ r s. r)
xr_summary-unique κs a r₁ r₂ s₁ s₂ p q = p ∙ sym q

pub xr_time_view-unique : (κs : Lfts 1) → Fixes (xr_time_view.Post κs) (λ r s. r)
xr_time_view-unique κs a r₁ r₂ s₁ s₂ p q = p ∙ sym q

pub xr_words_view-unique : (κs : Lfts 2) → Fixes (xr_words_view.Post κs) (λ r s. r)
xr_words_view-unique κs a r₁ r₂ s₁ s₂ p q = p.answer ∙ sym q.answer

pub xr_words_view-unique-out : (κs : Lfts 2) → Fixes (xr_words_view.Post κs) (λ r s. s.1.1.1.0.now)
xr_words_view-unique-out κs a r₁ r₂ s₁ s₂ p q = p.filled ∙ sym q.filled

pub xr_pairs_view-unique : (κs : Lfts 3) → Fixes (xr_pairs_view.Post κs) (λ r s. r)
xr_pairs_view-unique κs a r₁ r₂ s₁ s₂ p q = p.answer ∙ sym q.answer

pub xr_pairs_view-unique-numbers : (κs : Lfts 3) → Fixes (xr_pairs_view.Post κs) (λ r s. s.1.1.0.now)
xr_pairs_view-unique-numbers κs a r₁ r₂ s₁ s₂ p q = p.numbers ∙ sym q.numbers

pub xr_pairs_view-unique-times : (κs : Lfts 3) → Fixes (xr_pairs_view.Post κs) (λ r s. s.1.1.1.0.now)
xr_pairs_view-unique-times κs a r₁ r₂ s₁ s₂ p q = p.times ∙ sym q.times

pub xr_entries_view-unique : (κs : Lfts 4) → Fixes (xr_entries_view.Post κs) (λ r s. r)
xr_entries_view-unique κs a r₁ r₂ s₁ s₂ p q = p.answer ∙ sym q.answer

pub xr_entries_view-unique-ssrcs : (κs : Lfts 4) → Fixes (xr_entries_view.Post κs) (λ r s. s.1.1.0.now)
xr_entries_view-unique-ssrcs κs a r₁ r₂ s₁ s₂ p q = p.ssrcs ∙ sym q.ssrcs

pub xr_entries_view-unique-lasts : (κs : Lfts 4) → Fixes (xr_entries_view.Post κs) (λ r s. s.1.1.1.0.now)
xr_entries_view-unique-lasts κs a r₁ r₂ s₁ s₂ p q = p.lasts ∙ sym q.lasts

pub xr_entries_view-unique-delays : (κs : Lfts 4) → Fixes (xr_entries_view.Post κs) (λ r s. s.1.1.1.1.0.now)
xr_entries_view-unique-delays κs a r₁ r₂ s₁ s₂ p q = p.delays ∙ sym q.delays

pub xr_cursor_view-unique : (κs : Lfts 2) → Fixes (xr_cursor_view.Post κs) (λ r s. r)
xr_cursor_view-unique κs a r₁ r₂ s₁ s₂ p q = p.0 ∙ sym q.0

pub xr_cursor_view-unique-out : (κs : Lfts 2) → Fixes (xr_cursor_view.Post κs) (λ r s. s.1.1.1.1.1.1.0.now)
xr_cursor_view-unique-out κs a r₁ r₂ s₁ s₂ p q = p.1 ∙ sym q.1

pub xr_chunk_of-unique : (κs : Lfts 0) → Fixes (xr_chunk_of.Post κs) (λ r s. r)
xr_chunk_of-unique κs a r₁ r₂ s₁ s₂ p q = p ∙ sym q
