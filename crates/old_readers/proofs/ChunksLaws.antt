-- What refusal 15 comes to for types 1 and 2: the careful block of a record, read by the standard, and by the crate
-- with any bytes behind it. Assumes nothing.
--     chunks_block        the block
--     crate-same         where the block does not mislead, the crate lists what the standard does
--     crate-shows        the crate takes the block
--     chunks-mislead     what is shown differs exactly where `misled_words` says so
use Rattle.std.specs.Prelude.{Ok, Some}
use Prim.Native.Nat.{ℕ, zero, suc, ◌*◌, ◌-◌, ◌≤◌, ◌<◌}
use mathlib.Core.Path.{◌≡◌, refl, ap, ◌∙◌}
use mathlib.Core.Bool.{true, false, not}
use mathlib.Core.List.{List, [], ◌∷◌, ◌++◌, append-nil}
use native.Mathlib.Omega.{arith}
use lib.ListN.{length, take, drop, replicate, get_or-replicate, length-replicate}
use lib.Seq.{take-nil, take-append-le}
use lib.Dec.{eqb}
use borrow.Author.Tests.{eqb-true, eq-eqb, le-leb, not-false}
use Rattle.laws.proofs.Tests.{both}
use Rattle.def_wire.specs.declared.Reading.TheVariants.{Standard, Crate}
use Rattle.def_wire.specs.declared.Rle.{Rle}
use Rattle.def_wire.specs.declared.Ranged.TheVariants.{Chunks}
use Rattle.def_wire.specs.declared.Kind.TheVariants.{Spans}
use Rattle.def_wire.specs.declared.Fields.{Fields}
use Rattle.def_wire.specs.Bytes.{pair_up, words16}
use Rattle.def_wire.specs.Block.{fields_at, rle_type, block_length, crate_rule, fitness, check_of, fields_of}
use Rattle.def_standard.specs.Chunks.{covers_of, values_in}
use Rattle.def_standard.specs.Range.{range_of}
use Rattle.def_standard.specs.Standard.{numbers_of}
use Rattle.def_crate.specs.Sequence.{moved_by}
use Rattle.def_crate.specs.Crate.{ones_in, tries_from, crate_numbers_from, crate_words, crate_numbers}
use Rattle.def_questions.specs.Questions.{numbers_shown}
use Rattle.def_jobs.specs.declared.Layout.TheVariants.{Careful}
use Rattle.def_jobs.specs.Shown.{reported, record_of, same_row, same_record, numbers_row, row_of}
use Rattle.def_jobs.specs.Jobs.{Job, job_fields, job_words, is_body}
use Rattle.def_jobs.specs.Layout.{is_odd, last_word, zeros_behind, words_bytes, bytes_as}
use Rattle.def_jobs.specs.Writing.{max_bytes, differs}
use Rattle.misled.specs.Misled.{misled_words}
use Rattle.utils.proofs.BytesLaws.{length-pair_up}
use Rattle.written.proofs.Lists.{under_drop, last-behind}
use Rattle.written.proofs.RecordsLaws.{Body}
use Rattle.written.proofs.WordsLaws.{under-low16, block_words, words-even}
use Rattle.written.proofs.BlockLaws.{Fits, kind-rle, fields_back}
use Rattle.written.proofs.JobLaws.{job-fits, words-good, laid_as}
use Rattle.old_readers.proofs.Same.{same_row_lem, same-front}
use Rattle.old_readers.proofs.ApartLaws.{lists-differ}

-- ---- all words but the last

abbrev but_last : List ℕ → List ℕ
but_last l = take (length l - 1) l

-- the words of the first bytes are the first words
pair_up-take : (b n : ℕ) (s : List ℕ) → pair_up b (take (2 * n) s) ≡ take n (pair_up b s)
unfolding pair_up
pair_up-take b zero s = refl
pair_up-take b (suc n) [] = rw (take-nil (2 * suc n))
pair_up-take b (suc n) (x ∷ []) = let e : 2 * suc n ≡ suc (suc (2 * n)) = omega arith in rw e
pair_up-take b (suc n) (x ∷ y ∷ s) =
    let e : 2 * suc n ≡ suc (suc (2 * n)) = omega arith in rw (e, pair_up-take b n s)

-- in the careful layout the last one is 0
zeros-last : (ws : List ℕ) (z : ℕ) → last_word (ws ++ replicate (suc z) 0) ≡ 0
zeros-last ws z =
    let n : length {A = ℕ} (replicate (suc z) 0) ≡ suc z = length-replicate (suc z) 0 in
    let i : suc z - 1 < suc z = omega arith in
    last-behind ws (replicate (suc z) 0) (omega arith) ∙ (rw n (get_or-replicate (suc z) (suc z - 1) 0 0 i))

careful-last : (ws : List ℕ) → last_word (ws ++ replicate (zeros_behind Careful ws) 0) ≡ 0
unfolding zeros_behind
careful-last ws =
    let Last : ℕ → Type 0 = λ (z : ℕ). last_word (ws ++ replicate z 0) ≡ 0 in
    both Last (is_odd ws) (λ _. zeros-last ws 0)
    (λ _. both Last (eqb (last_word ws) 0) (λ e. rw (append-nil ws) (eqb-true _ _ e)) (λ _. zeros-last ws 1))

-- zero words have nothing to try
module _ (t : ℕ) where
  tries-zeros : (start : ℕ) (ws : List ℕ) (z : ℕ) → tries_from t start (ws ++ replicate z 0) ≡ tries_from t start ws
  unfolding tries_from ones_in values_in
  tries-zeros start [] zero = refl
  tries-zeros start [] (suc z) = tries-zeros (moved_by 0 t start) [] z
  tries-zeros start (w ∷ ws) z = rw (tries-zeros (moved_by (covers_of w) t start) ws z)

  tries-last : (start : ℕ) (l : List ℕ) → last_word l ≡ 0 → tries_from t start (but_last l) ≡ tries_from t start l
  unfolding tries_from ones_in values_in
  tries-last start [] e = refl
  tries-last start (w ∷ []) e = rw e
  tries-last start (w ∷ x ∷ l) e =
      let i : suc (suc (length l)) - 1 ≡ suc (suc (length l) - 1) = omega arith in
      rw (i, tries-last (moved_by (covers_of w) t start) (x ∷ l) (rw i at e))

-- so the crate misses nothing
careful-numbers : (end t start : ℕ) (ws : List ℕ)
    → crate_numbers_from end t start (but_last (ws ++ replicate (zeros_behind Careful ws) 0))
    ≡ crate_numbers_from end t start ws
unfolding crate_numbers_from
careful-numbers end t start ws =
    let z = zeros_behind Careful ws in
    rw (tries-last t start (ws ++ replicate z 0) (careful-last ws), tries-zeros t start ws z)

-- ---- two reports with the same fields

same-reported : (a : Rle) (f : Fields) (l m : List ℕ)
    → same_record (reported a f l) (reported a f m) ≡ same_row l m
unfolding numbers_row
same-reported a f l m = same-front (rle_type a ∷ row_of f []) l m

-- ---- the block

-- of a record in the careful layout
abbrev pub chunks_block : Rle → Job → List ℕ
chunks_block a j = bytes_as (Some (Spans (Chunks a))) Careful j

module _ (a : Rle) (j : Job) (good : is_body (Some (Spans (Chunks a))) j ≡ true) (body : Body j) (rest : List ℕ)
    (fits : length (chunks_block a j) ≤ max_bytes) where
  abbrev f : Fields
  f = job_fields j

  abbrev ws : List ℕ
  ws = job_words j

  -- what the crate reads
  abbrev view : List ℕ
  view = chunks_block a j ++ rest

  announced : block_length view ≡ length (chunks_block a j)
  announced = (laid_as (Some (Spans (Chunks a))) Careful j good body).announces fits

  held : Fits f
  held = job-fits j 2 (words-good a j good).0 body

  fields-shown : fields_at view ≡ f
  fields-shown = fields_back (rle_type a) f (words_bytes Careful ws ++ rest) held

  check-fine : check_of Crate (Spans (Chunks a)) view ≡ Ok tt
  unfolding check_of fitness crate_rule
  check-fine =
      let h : 12 ≤ block_length view = omega (arith, announced) in rw (eq-eqb (rle_type a) _ refl, le-leb _ _ h)

  words-read : crate_words view ≡ but_last (ws ++ replicate (zeros_behind Careful ws) 0)
  words-read =
      let own = words_bytes Careful ws in
      let n = length (words16 own) - 1 in
      let even = words-even Careful ws in
      let half = length-pair_up 256 own in
      let e : block_length view - 14 ≡ 2 * n = omega (arith, announced) in
      let k : 2 * n ≤ length own = omega arith in
      let u = under-low16 (drop 10 j.body) (under_drop 256 10 j.body body) in
      ap (λ (i : ℕ). words16 (take i (own ++ rest))) e
      ∙ ap words16 (take-append-le (2 * n) own rest k)
      ∙ pair_up-take 256 n own
      ∙ ap but_last (block_words Careful ws u)

  numbers-shown : crate_numbers view ≡ crate_numbers_from f.end f.thinning f.begin ws
  numbers-shown =
      ap (λ (x : Fields). crate_numbers_from x.end x.thinning x.begin (crate_words view)) fields-shown
      ∙ ap (crate_numbers_from f.end f.thinning f.begin) words-read
      ∙ careful-numbers f.end f.thinning f.begin ws

  -- what the two readings list differs where `misled_words` says so
  lists-apart : not (same_row (crate_numbers view) (numbers_of (range_of f) ws)) ≡ misled_words f ws
  lists-apart =
      let thin = held.thinning in
      rw numbers-shown (lists-differ f held.begin held.end (omega arith) ws)

  -- so where it does not mislead, an old reader lists what the standard does
  pub crate-same : misled_words (job_fields j) (job_words j) ≡ false
      → crate_numbers (chunks_block a j ++ rest) ≡ numbers_of (range_of (job_fields j)) (job_words j)
  crate-same e =
      same_row_lem (crate_numbers view) (numbers_of (range_of f) ws) (not-false _ (lists-apart ∙ e))

  pub crate-shows : record_of Crate (chunks_block a j ++ rest) ≡ Ok (reported a f (crate_numbers view))
  unfolding record_of fields_of numbers_shown
  crate-shows =
      rw (kind-rle a, check-fine) (ap (λ (x : Fields). Ok (reported a x (crate_numbers view))) fields-shown)

  pub chunks-mislead : differs (record_of Crate (chunks_block a j ++ rest)) (record_of Standard (chunks_block a j))
      ≡ misled_words (job_fields j) (job_words j)
  chunks-mislead =
      rw (crate-shows, (laid_as (Some (Spans (Chunks a))) Careful j good body).shows)
      (ap not (same-reported a f (crate_numbers view) (numbers_of (range_of f) ws)) ∙ lists-apart)
