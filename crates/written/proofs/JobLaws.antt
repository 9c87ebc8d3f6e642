-- The block of a good record is laid as the record asks, for each kind. Assumes nothing.
use Rattle.std.specs.Prelude.{Option, Some, None}
use Prim.Native.Nat.{ℕ, ◌+◌, ◌%◌, ◌<◌, ◌^◌}
use mathlib.Core.Path.{◌≡◌, refl}
use mathlib.Core.Bool.{Bool, true, false, not}
use mathlib.Core.List.{List}
use native.Mathlib.Omega.{arith}
use lib.ListN.{length, drop}
use lib.Dec.{leb}
use borrow.Author.Tests.{leb-true, eqb-true}
use Rattle.def_wire.specs.declared.Kind.{Kind}
use Rattle.laws.proofs.Tests.{and-true, true≢false}
use Rattle.def_wire.specs.declared.Rle.{Rle}
use Rattle.def_wire.specs.declared.Ranged.TheVariants.{Chunks, Times}
use Rattle.def_wire.specs.declared.Kind.TheVariants.{Spans, Clock, Echoes, Statistics}
use Rattle.def_wire.specs.Bytes.{four}
use Rattle.def_wire.specs.Block.{lost_run, has, kind_of}
use Rattle.def_standard.specs.Range.{range_of}
use Rattle.def_jobs.specs.declared.Layout.{Layout}
use Rattle.def_jobs.specs.Jobs.{Job, le16, le32, le64, low32, job_fields, job_words, job_times, has_fields, is_body}
use Rattle.def_jobs.specs.Jobs.{job_flags, job_sums, is_block_job, asked_as, asked_of}
use Rattle.def_jobs.specs.Layout.{bytes_of, words_bytes, bytes_as, block_bytes}
use Rattle.utils.proofs.BytesLaws.{Bytes}
use Rattle.little_endian.proofs.LowLaws.{length-low32, length-bytes_of}
use Rattle.written.proofs.Lists.{under_drop}
use Rattle.written.proofs.RecordsLaws.{Body}
use Rattle.written.proofs.WordsLaws.{under-low16, under-low32, words32-bytes}
use Rattle.written.proofs.WordsLaws.{clear_behind, numbers-behind, words-even}
use Rattle.written.proofs.BlockLaws.{Fits, SumsFit, Laid, rle-laid, times-laid, clock-laid, echoes-laid}
use Rattle.written.proofs.BlockLaws.{sums-laid}

-- ---- little-endian numbers of bytes

module _ (s : List ℕ) (h : Bytes s) where
  pub le16-lt : (at : ℕ) → le16 s at < 65536
  le16-lt at = omega (arith, h at, h (at + 1))

  pub le32-lt : (at : ℕ) → le32 s at < 4294967296
  le32-lt at = omega (arith, le16-lt at, le16-lt (at + 2))

  pub le64-lt : (at : ℕ) → le64 s at < 2 ^ 64
  le64-lt at = omega (arith, le32-lt at, le32-lt (at + 4))

pub job-fits : (j : Job) (n : ℕ) → has_fields j n ≡ true → Body j → Fits (job_fields j)
job-fits j n g h =
    let p = and-true (leb 10 (length j.body)) _ g in
    let q = and-true (leb (job_fields j).thinning 15) _ p.1 in
    record {
      ssrc = le32-lt j.body h 0;
      begin = le16-lt j.body h 4;
      end = le16-lt j.body h 6;
      thinning = leb-true _ _ q.0;
    }

sums-fit : (j : Job) → Body j → SumsFit (job_sums j)
sums-fit j h =
    record {
      ssrc = le32-lt j.body h 2;
      begin = le16-lt j.body h 6;
      end = le16-lt j.body h 8;
      lost = le32-lt j.body h 10;
      duplicates = le32-lt j.body h 14;
      least = le32-lt j.body h 18;
      most = le32-lt j.body h 22;
      mean = le32-lt j.body h 26;
      deviation = le32-lt j.body h 30;
    }

-- a good record's words: fields before them, and no run of ones of no length among them
pub words-good : (a : Rle) (j : Job) → is_body (Some (Spans (Chunks a))) j ≡ true
    → (has_fields j 2 ≡ true) × (has lost_run (job_words j) ≡ false)
words-good a j g =
    let p = and-true (has_fields j 2) _ g in
    (p.0, not-true (has lost_run (job_words j)) p.1)
  where
    not-true : (b : Bool) → not b ≡ true → b ≡ false
    not-true true e = true≢false e
    not-true false e = refl

pub laid_as : (k : Option Kind) (layout : Layout) (j : Job) → is_body k j ≡ true → Body j
    → Laid (bytes_as k layout j) (asked_as k j)
laid_as (Some (Spans (Chunks a))) layout j g h =
    let u = under-low16 (drop 10 j.body) (under_drop 256 10 j.body h) in
    let w = words-good a j g in
    rw (numbers-behind layout (range_of (job_fields j)) (job_words j) u) at
    (rle-laid (job_fields j) (words_bytes layout (job_words j)) (job-fits j 2 w.0 h) (words-even layout (job_words j)) a
    (clear_behind layout (job_words j) u w.1))
laid_as (Some (Spans Times)) layout j g h =
    let u = under-low32 (drop 10 j.body) (under_drop 256 10 j.body h) in
    let l = length-bytes_of four 4 (λ x. refl) (job_times j) in
    let m : length (bytes_of four (job_times j)) % 4 ≡ 0 = omega (arith, l) in
    rw (words32-bytes (job_times j) u) at
    (times-laid (job_fields j) (bytes_of four (job_times j)) (job-fits j 4 g h) m)
laid_as (Some Clock) layout j g h = clock-laid (le64 j.body 0) (le64-lt j.body h 0)
laid_as (Some Echoes) layout j g h =
    let l = length-bytes_of four 4 (λ x. refl) (low32 j.body) in
    let n = length-low32 j.body in
    let m : length j.body % 12 ≡ 0 = eqb-true _ _ g in
    let e : length j.body ≡ length (bytes_of four (low32 j.body)) = omega arith in
    rw (words32-bytes (low32 j.body) (under-low32 j.body h)) at
    (echoes-laid (length j.body) (bytes_of four (low32 j.body)) e (omega arith))
laid_as (Some Statistics) layout j g h = sums-laid (job_flags j) (job_sums j) (sums-fit j h)
laid_as None layout j g h = true≢false g

pub block-laid : (layout : Layout) (j : Job) → is_block_job j ≡ true → Body j → Laid (block_bytes layout j) (asked_of j)
unfolding is_block_job block_bytes asked_of
block-laid layout j g h = laid_as (kind_of j.kind) layout j g h
