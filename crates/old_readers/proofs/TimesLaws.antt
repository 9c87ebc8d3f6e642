-- What 15 comes to for a block of type 3. Where begin is on the grid both readings list a first stretch of the same
-- pairs, so they show the same where they list as many; where it is off it they show the same only where neither lists
-- any. Assumes nothing.
--     times-mislead      the block misleads where `misled_times` says so
use Rattle.std.specs.Prelude.{Ok, Some}
use Prim.Native.Nat.{ℕ, zero, suc, ◌+◌, ◌/◌, ◌%◌, ◌^◌, ◌≤◌, ◌<◌, min}
use mathlib.Core.Path.{◌≡◌, refl, sym, ap, ap₂, ◌∙◌}
use mathlib.Core.Bool.{true, false, not}
use mathlib.Core.List.{List, [], ◌∷◌, ◌++◌}
use native.Mathlib.Nat.{sub-zero}
use native.Mathlib.Omega.{arith}
use lib.ListN.{length, drop, length-append}
use lib.Dec.{eqb, eqb-zero-suc, eqb-suc-zero, eqb-suc-suc}
use borrow.Author.Tests.{le-ltb, eq-eqb, ne_eqb, eqb-false}
use Rattle.laws.proofs.Tests.{either}
use Rattle.def_wire.specs.declared.Reading.TheVariants.{Standard, Crate}
use Rattle.def_wire.specs.declared.Fields.{Fields}
use Rattle.def_wire.specs.declared.Ranged.TheVariants.{Times}
use Rattle.def_wire.specs.declared.Kind.TheVariants.{Spans}
use Rattle.def_wire.specs.Bytes.{words32, four}
use Rattle.def_wire.specs.Block.{receipt_type, rle_of, ranged_of, kind_of, crate_rule, fitness, check_of, fields_of}
use Rattle.def_standard.specs.declared.Range.{Range}
use Rattle.def_standard.specs.declared.Receipt.{Receipt}
use Rattle.def_standard.specs.Range.{range_of, number_of}
use Rattle.def_crate.specs.Crate.{crate_pairs_from}
use Rattle.def_questions.specs.Questions.{pairs_shown}
use Rattle.def_jobs.specs.declared.Layout.TheVariants.{Careful}
use Rattle.def_jobs.specs.Jobs.{Job, job_fields, job_times, has_fields}
use Rattle.def_jobs.specs.Shown.{Record, received, record_of, receipt_row, same_row}
use Rattle.def_jobs.specs.Layout.{bytes_of, bytes_as}
use Rattle.def_jobs.specs.Writing.{max_bytes, differs}
use Rattle.utils.proofs.BytesLaws.{length-words32}
use Rattle.little_endian.proofs.LowLaws.{length-bytes_of}
use Rattle.range.specs.Grid.{on_grid, from_begin}
use Rattle.range.specs.Inside.{inside_count}
use Rattle.range.specs.Failing.{first_fail, never}
use Rattle.range.proofs.InsideLaws.{inside-count-le}
use Rattle.range.proofs.NumberLaws.{number_of-zero}
use Rattle.range.proofs.GridLaws.{listed-grid, range-on-grid}
use Rattle.range.proofs.FailLaws.{first_pos}
use Rattle.packet_receipt_time.specs.Pairs.{first_pairs}
use Rattle.packet_receipt_time.proofs.PairsLaws.{first-all, pairs-standard, pairs-crate}
use Rattle.misled.specs.Misled.{misled_times}
use Rattle.misled.proofs.MisledLaws.{shared-on, shared-off}
use Rattle.written.proofs.Lists.{under_drop}
use Rattle.written.proofs.WordsLaws.{under-low32, words32-behind}
use Rattle.written.proofs.RecordsLaws.{Body}
use Rattle.written.proofs.BlockLaws.{Fits, fields_back}
use Rattle.written.proofs.JobLaws.{job-fits, laid_as}
use Rattle.old_readers.proofs.Same.{same-front, same_received}

-- ---- first stretches of the same pairs

same-counted : (g : Range) (p m n : ℕ) (ts us : List ℕ) → m ≤ length ts + length us → n ≤ length ts
    → same_row (receipt_row (first_pairs g p m (ts ++ us))) (receipt_row (first_pairs g p n ts)) ≡ eqb m n
unfolding first_pairs
same-counted g p zero zero ts us a b = refl
same-counted g p zero (suc n) [] us a b = absurd (omega arith)
same-counted g p zero (suc n) (t ∷ ts) us a b = sym (eqb-zero-suc n)
same-counted g p (suc m) zero [] [] a b = absurd (omega arith)
same-counted g p (suc m) zero [] (u ∷ us) a b = sym (eqb-suc-zero m)
same-counted g p (suc m) zero (t ∷ ts) us a b = sym (eqb-suc-zero m)
same-counted g p (suc m) (suc n) [] us a b = absurd (omega arith)
same-counted g p (suc m) (suc n) (t ∷ ts) us a b =
    same-front (number_of g p ∷ t ∷ []) (receipt_row (first_pairs g (suc p) m (ts ++ us)))
    (receipt_row (first_pairs g (suc p) n ts))
    ∙ same-counted g (suc p) m n ts us (omega arith) (omega arith) ∙ sym (eqb-suc-suc m n)

-- of any counts
same_first : (g : Range) (m n : ℕ) (ts us : List ℕ)
    → same_row (receipt_row (first_pairs g 0 m (ts ++ us))) (receipt_row (first_pairs g 0 n ts))
    ≡ eqb (min m (length ts + length us)) (min n (length ts))
same_first g m n ts us =
    let l : length (ts ++ us) ≡ length ts + length us = length-append ts us in
    rw (first-all g 0 m (ts ++ us), first-all g 0 n ts, l)
    (same-counted g 0 (min m (length ts + length us)) (min n (length ts)) ts us (omega arith) (omega arith))

-- ---- stretches that begin with different numbers

some : (m n : ℕ) → 0 < n → false ≡ eqb (min (suc m) n) 0
some m n h = let z : min (suc m) n ≡ 0 → ⊥ = λ q. omega arith in sym (ne_eqb _ _ z)

same-apart : (g h : Range) (m n : ℕ) (ts us : List ℕ) → (number_of g 0 ≡ number_of h 0 → ⊥) → 0 < m
    → same_row (receipt_row (first_pairs g 0 m (ts ++ us))) (receipt_row (first_pairs h 0 n ts))
    ≡ eqb (min m (length ts + length us)) 0
unfolding first_pairs
same-apart g h zero n ts us apart pos = absurd (omega arith)
same-apart g h (suc m) zero [] [] apart pos = let e : min (suc m) (0 + 0) ≡ 0 = omega arith in sym (eq-eqb _ _ e)
same-apart g h (suc m) (suc n) [] [] apart pos = let e : min (suc m) (0 + 0) ≡ 0 = omega arith in sym (eq-eqb _ _ e)
same-apart g h (suc m) zero [] (u ∷ us) apart pos = some m (0 + suc (length us)) (omega arith)
same-apart g h (suc m) (suc n) [] (u ∷ us) apart pos = some m (0 + suc (length us)) (omega arith)
same-apart g h (suc m) zero (t ∷ ts) us apart pos = some m (suc (length ts) + length us) (omega arith)
same-apart g h (suc m) (suc n) (t ∷ ts) us apart pos =
    rw (ne_eqb _ _ apart) (some m (suc (length ts) + length us) (omega arith))

-- ---- what the two readings show

module _ (j : Job) where
  abbrev block : List ℕ
  block = bytes_as (Some (Spans Times)) Careful j

  -- the record with the first n of some times, counted by a range
  abbrev firsts : Range → ℕ → List ℕ → Record
  firsts g n ts = received (job_fields j) (first_pairs g 0 n ts)

  -- how many positions each reading lists at most
  abbrev in_crate : ℕ
  in_crate = first_fail (job_fields j).begin (job_fields j).end (job_fields j).thinning

  abbrev in_standard : ℕ
  in_standard = inside_count (range_of (job_fields j))

  module _ (good : has_fields j 4 ≡ true) (body : Body j) where
    standard-shows : record_of Standard block ≡ Ok (firsts (range_of (job_fields j)) in_standard (job_times j))
    standard-shows =
        (laid_as (Some (Spans Times)) Careful j good body).shows
        ∙ ap (λ (l : List Receipt). Ok (received (job_fields j) l))
        (rw sub-zero at (pairs-standard (range_of (job_fields j)) 0 (job_times j)))

    crate-shows : (rest : List ℕ) → length (block ++ rest) ≤ max_bytes
        → record_of Crate (block ++ rest) ≡ Ok (firsts (from_begin (job_fields j)) in_crate (job_times j ++ words32 rest))
    unfolding record_of kind_of ranged_of rle_of fields_of pairs_shown check_of fitness crate_rule
    crate-shows rest small =
        let own = job_times j in
        let fits = job-fits j 4 good body in
        let under = under-low32 (drop 10 j.body) (under_drop 256 10 j.body body) in
        let long : 12 ≤ length (block ++ rest) = omega arith in
        let few : 0 + length (own ++ words32 rest) ≤ never = omega (
          arith,
          length-append own (words32 rest),
          length-words32 rest,
          length-append (bytes_of four own) rest,
          length-bytes_of four 4 (λ x. refl) own,
        ) in
        rw (le-ltb _ _ long)
        (ap₂ (λ (f : Fields) (ts : List ℕ). Ok (received f (crate_pairs_from f 0 ts)))
        (fields_back receipt_type (job_fields j) (bytes_of four own ++ rest) fits) (words32-behind own rest under)
        ∙ ap (λ (l : List Receipt). Ok (received (job_fields j) l))
        (rw sub-zero at
        (pairs-crate (job_fields j) fits.begin fits.end 0 (own ++ words32 rest) few (omega arith))))

-- off the grid the crate's first number is begin, and the standard's is on the grid
firsts-apart : (f : Fields) → Fits f → on_grid f ≡ false → number_of (from_begin f) 0 ≡ number_of (range_of f) 0 → ⊥
firsts-apart f fits off e =
    let thin = fits.thinning in
    eqb-false _ _ off
    (ap (λ (x : ℕ). x % 2 ^ f.thinning) (sym (number_of-zero (from_begin f) fits.begin) ∙ e)
    ∙ listed-grid f 0 (omega arith))

-- the two stretches, of fields whose numbers fit
stretches-differ : (f : Fields) → Fits f → (ts us : List ℕ)
    → not (same_row (receipt_row (first_pairs (from_begin f) 0 (first_fail f.begin f.end f.thinning) (ts ++ us)))
    (receipt_row (first_pairs (range_of f) 0 (inside_count (range_of f)) ts)))
    ≡ misled_times f (length ts) (length ts + length us)
unfolding misled_times
stretches-differ f fits ts us =
    let stop = first_fail f.begin f.end f.thinning in
    either (on_grid f)
    (λ on. rw (shared-on f on, range-on-grid f fits.begin on)
    (ap not (same_first (from_begin f) stop (inside_count (from_begin f)) ts us)))
    (λ off. let none : Range = record { begin = f.begin; size = 0; thinning = f.thinning } in
    let nothing : min (inside_count none) (length ts) ≡ 0 = omega (arith, inside-count-le none) in
    rw (shared-off f off, nothing)
    (ap not
    (same-apart (from_begin f) (range_of f) stop (inside_count (range_of f)) ts us (firsts-apart f fits off)
    (first_pos f.begin f.end f.thinning fits.begin fits.end))))

pub times-mislead : (j : Job) → has_fields j 4 ≡ true → Body j → (rest : List ℕ)
    → length (bytes_as (Some (Spans Times)) Careful j ++ rest) ≤ max_bytes
    → differs (record_of Crate (bytes_as (Some (Spans Times)) Careful j ++ rest))
    (record_of Standard (bytes_as (Some (Spans Times)) Careful j))
    ≡ misled_times (job_fields j) (length (job_times j)) (length (job_times j) + length rest / 4)
times-mislead j good body rest small =
    let f = job_fields j in
    let own = job_times j in
    rw (crate-shows j good body rest small, standard-shows j good body, ← length-words32 rest)
    (ap not
    (same_received f (first_pairs (from_begin f) 0 (in_crate j) (own ++ words32 rest))
    (first_pairs (range_of f) 0 (in_standard j) own))
    ∙ stretches-differ f (job-fits j 4 good body) own (words32 rest))
