-- `word_scan::has_low` meets its contract: the word is among those before an index, or among those from there on.
-- Assumes nothing.
use Rattle.std.proofs.Common.{ℕ, List, [], get_or, ap, ◌∙◌, w16, arith}
use Rattle.std.specs.Int.{from_le_bytes}
use Rattle.word_scan.proofs.ScanLaws.{seen_word, seen_all, seen_end}
use Rattle.word_scan.proofs.has_low.Goals as goal

pub loop-word-preserved : goal.loop-word-preserved
loop-word-preserved c = let i = c.loop-word.word-index in
    seen_word c.args.bytes.now i (omega arith) c.loop-word.invariant
    (c.from_le_bytes.ensures
    ∙ ap (λ (x : List (List ℕ)). from_le_bytes w16 (get_or x i [])) c.as_chunks.ensures.front)

pub returns : goal.returns
returns c = seen_all c.loop-word.invariant (seen_end c.args.bytes.now _ (omega arith))
