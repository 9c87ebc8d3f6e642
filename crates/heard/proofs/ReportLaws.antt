-- The packet of a report on marks, in both layouts: it is written, and both readings of it. Assumes nothing.
--     report-fit         its two records are good, and fit
--     report-written     it is never refused but for room
--     report-asks        its one record asks for the numbers heard
--     report-old         an old reader of the careful packet shows the same
use Rattle.std.specs.Prelude.{Ok, Err, Some}
use Prim.Native.Nat.{ℕ, ◌≤◌, ◌<◌}
use mathlib.Core.Path.{◌≡◌, refl, ap, ap₂, ◌∙◌}
use mathlib.Core.Bool.{Bool, true, false, cond, ◌&&◌}
use mathlib.Core.List.{List, [], ◌∷◌, ◌++◌}
use native.Mathlib.Omega.{arith}
use lib.ListN.{length, length-append}
use borrow.Author.Tests.{le-ltb}
use Rattle.laws.proofs.Tests.{and_false_r}
use Rattle.def_refusals.specs.declared.Refusal.TheVariants.{Misleads}
use Rattle.def_wire.specs.declared.Reading.TheVariants.{Crate}
use Rattle.def_wire.specs.declared.Rle.TheVariants.{Loss}
use Rattle.def_wire.specs.declared.Ranged.TheVariants.{Chunks}
use Rattle.def_wire.specs.declared.Kind.TheVariants.{Spans}
use Rattle.def_wire.specs.declared.Fields.{Fields}
use Rattle.def_wire.specs.Block.{rle_of, ranged_of, kind_of, lost_run, has}
use Rattle.def_standard.specs.Range.{range_of}
use Rattle.def_standard.specs.Standard.{numbers_of}
use Rattle.def_crate.specs.Crate.{crate_numbers}
use Rattle.def_jobs.specs.declared.Layout.{Layout}
use Rattle.def_jobs.specs.declared.Layout.TheVariants.{Plain, Careful}
use Rattle.def_jobs.specs.Shown.{reported, record_of}
use Rattle.def_jobs.specs.Jobs.{Job, job_fields, job_words, jobs_of, asked_of, is_body, is_block_job}
use Rattle.def_jobs.specs.Layout.{block_bytes, blocks_bytes, layout_of}
use Rattle.def_jobs.specs.Writing.{max_bytes, mislead_fault, write_fault, packet_of}
use Rattle.block_size.proofs.LayoutLaws.{block-fits}
use Rattle.misled.specs.Misled.{misled_words, misled_by, misled_fault}
use Rattle.written.proofs.Lists.{Each}
use Rattle.written.proofs.RecordsLaws.{Body, layout_fault, Fit, fit}
use Rattle.old_readers.proofs.FaultLaws.{careful-fault}
use Rattle.old_readers.proofs.ChunksLaws.{chunks_block, crate-same, crate-shows}
use Rattle.def_marks.specs.Marks.{words_of}
use Rattle.def_marks.specs.Report.{end_of, report_of, heard_of}
use Rattle.marked.specs.Marked.{Marks}
use Rattle.marked.proofs.WordsLaws.{words-few}
use Rattle.heard.proofs.ValuesLaws.{words-under, words-clear}
use Rattle.heard.proofs.HeardLaws.{heard_fields, numbers-heard, quiet-heard}
use Rattle.heard.proofs.ListLaws.{header_job, loss_job, list-jobs, list-good, header-bytes, loss-bytes}
use Rattle.heard.proofs.ListLaws.{length-loss, loss-fields, loss-words, loss-good}

module _ (sender media b : ℕ) (ms : List ℕ) (m : media < 4294967296) (h : b < 65536) (k : length ms ≤ 65536)
    (marks : Marks ms) where
  -- the two records
  abbrev pub first : Job
  first = header_job sender

  abbrev pub second : Job
  second = loss_job media b (end_of b ms) (words_of ms)

  few : length (words_of ms) ≤ 4370
  few = omega (arith, words-few ms)

  pub report-jobs : jobs_of (report_of sender media b ms) ≡ first ∷ second ∷ []
  report-jobs = list-jobs sender media b (end_of b ms) (words_of ms) (omega (arith, few))

  fields-are : job_fields second ≡ heard_fields media b ms
  fields-are = loss-fields media b (end_of b ms) (words_of ms) m h (omega arith)

  words_are : job_words second ≡ words_of ms
  words_are = loss-words media b (end_of b ms) (words_of ms) (words-under ms marks)

  loss-clear : has lost_run (job_words second) ≡ false
  loss-clear = ap (has lost_run) words_are ∙ words-clear ms marks

  pub report-asks : asked_of second ≡ reported Loss (heard_fields media b ms) (heard_of b ms)
  unfolding asked_of kind_of ranged_of rle_of
  report-asks = rw (fields-are, words_are, numbers-heard media b ms h k marks)

  -- ---- written

  report-size : (layout : Layout) → layout_fault layout (first ∷ second ∷ []) ≡ Ok tt
  unfolding layout_of blocks_bytes
  report-size layout =
      let l = block-fits layout second (loss-good media b (end_of b ms) (words_of ms) loss-clear) in
      let n = length-loss media b (end_of b ms) (words_of ms) in
      let s : length (layout_of layout (first ∷ second ∷ [])) ≤ 262144 =
      omega (
        arith,
        length-append (block_bytes layout second ++ []) [],
        length-append (block_bytes layout second) [],
        l,
        n,
        few,
      ) in
      rw (le-ltb 262144 (length (layout_of layout (first ∷ second ∷ []))) s)

  pub report-fit : (layout : Layout) → Fit layout first (second ∷ []) (layout_of layout (first ∷ second ∷ []))
  report-fit layout =
      fit layout first (second ∷ []) (list-good sender media b (end_of b ms) (words_of ms) loss-clear)
      (report-size layout)

  pub bodies-are : Body first × Each Body (second ∷ [])
  bodies-are = (header-bytes sender, (loss-bytes media b (end_of b ms) (words_of ms), tt))

  -- 15 does not apply
  quiet : misled_words (job_fields second) (job_words second) ≡ false
  quiet = ap₂ misled_words fields-are words_are ∙ quiet-heard media b ms h k marks

  not-misled : misled_fault 0 (second ∷ []) ≡ Ok tt
  unfolding misled_fault misled_by kind_of ranged_of rle_of
  not-misled =
      let e : (is_block_job second && misled_words (job_fields second) (job_words second)) ≡ false =
      ap (λ (x : Bool). is_block_job second && x) quiet ∙ and_false_r (is_block_job second) in
      ap (λ (x : Bool). cond x (Err (Misleads 0)) (Ok tt)) e

  never-fifteen : (layout : Layout) → mislead_fault layout (layout_of layout (first ∷ second ∷ [])) 1 ≡ Ok tt
  never-fifteen Plain = refl
  never-fifteen Careful =
      careful-fault first (second ∷ []) (layout_of Careful (first ∷ second ∷ [])) (report-fit Careful) bodies-are.0
      bodies-are.1
      ∙ not-misled

  pub report-written : (layout : Layout)
      → packet_of layout (report_of sender media b ms) ≡ Ok (layout_of layout (first ∷ second ∷ []))
  unfolding packet_of write_fault
  report-written layout =
      rw (
        report-jobs,
        list-good sender media b (end_of b ms) (words_of ms) loss-clear,
        report-size layout,
        never-fifteen layout,
      )

  -- ---- the old reading

  old-numbers : (good : is_body (Some (Spans (Chunks Loss))) second ≡ true) (body : Body second)
      → length (chunks_block Loss second) ≤ max_bytes → crate_numbers (chunks_block Loss second ++ []) ≡ heard_of b ms
  old-numbers good body small =
      crate-same Loss second good body [] small quiet
      ∙ ap₂ (λ (f : Fields) (ws : List ℕ). numbers_of (range_of f) ws) fields-are words_are
      ∙ numbers-heard media b ms h k marks

  -- of the careful block, with nothing behind it
  pub report-old : record_of Crate (block_bytes Careful second ++ [])
      ≡ Ok (reported Loss (heard_fields media b ms) (heard_of b ms))
  unfolding block_bytes is_block_job kind_of ranged_of rle_of
  report-old =
      let good : is_block_job second ≡ true = loss-good media b (end_of b ms) (words_of ms) loss-clear in
      let body : Body second = bodies-are.1.0 in
      let small : length (chunks_block Loss second) ≤ max_bytes =
      omega (arith, block-fits Careful second good, length-loss media b (end_of b ms) (words_of ms), few) in
      crate-shows Loss second good body [] small
      ∙ ap₂ (λ (f : Fields) (l : List ℕ). Ok (reported Loss f l)) fields-are (old-numbers good body small)
