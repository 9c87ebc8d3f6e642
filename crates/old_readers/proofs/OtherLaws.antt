-- What 15 comes to for blocks of types 4, 5 and 6. Assumes nothing.
--     clock-misleads-never     a block of type 4 shows its time, whatever follows
--     echoes-mislead           a block of type 5 misleads where `misled_echoes` says so
--     sums-bare                of a block of type 6 the crate shows type and length only, whatever follows
--     sums-mislead-never       which misleads nobody
use Rattle.std.specs.Prelude.{Ok, Some}
use Prim.Native.Nat.{ℕ, zero, suc, ◌+◌, ◌*◌, ◌/◌, ◌%◌, ◌^◌, ◌≤◌, ◌<◌}
use mathlib.Core.Path.{◌≡◌, refl, sym, ap, ◌∙◌}
use mathlib.Core.Bool.{true, false, not}
use mathlib.Core.List.{List, [], ◌∷◌, ◌++◌}
use native.Mathlib.Omega.{arith}
use lib.ListN.{length, length-append}
use lib.Dec.{eqb, leb, ltb}
use borrow.Author.Tests.{le-leb, lt-ltb, le-ltb, eqb-true, leb-true, leb-false}
use Rattle.laws.proofs.Tests.{either}
use Rattle.def_refusals.specs.Answers.{Or}
use Rattle.def_wire.specs.declared.Reading.TheVariants.{Standard, Crate}
use Rattle.def_wire.specs.declared.Kind.TheVariants.{Clock, Echoes, Statistics}
use Rattle.def_wire.specs.Bytes.{words32, four, eight}
use Rattle.def_wire.specs.Block.{clock_type, block_length, rle_of, ranged_of, kind_of, crate_rule, fitness, check_of, time_of}
use Rattle.def_standard.specs.Standard.{echoes_of}
use Rattle.def_questions.specs.Questions.{entries_shown}
use Rattle.def_jobs.specs.declared.Layout.TheVariants.{Careful}
use Rattle.def_jobs.specs.Jobs.{Job, low32, le64}
use Rattle.def_jobs.specs.Shown.{Record, clocked, echoed, bare, record_of, echo_row, numbers_row, same_row}
use Rattle.def_jobs.specs.Layout.{head, bytes_as}
use Rattle.def_jobs.specs.Writing.{max_bytes, differs}
use Rattle.utils.proofs.BytesLaws.{be64-eight, length-words32}
use Rattle.little_endian.proofs.LowLaws.{length-low32, length-bytes_of}
use Rattle.misled.specs.Misled.{misled_echoes}
use Rattle.written.proofs.WordsLaws.{under-low32, words32-behind}
use Rattle.written.proofs.WalkLaws.{length-stands}
use Rattle.written.proofs.RecordsLaws.{Body}
use Rattle.written.proofs.BlockLaws.{clock-laid}
use Rattle.written.proofs.JobLaws.{le64-lt, laid_as}
use Rattle.old_readers.proofs.Same.{same_self, same-front}

-- ---- type 4

clock-shows : (x : ℕ) (rest : List ℕ) → x < 2 ^ 64
    → record_of Crate (head clock_type 0 8 ++ (eight x ++ rest)) ≡ Ok (clocked (record { 0 = x }))
unfolding record_of kind_of ranged_of rle_of time_of check_of fitness crate_rule
clock-shows x rest h =
    let long : 12 ≤ length (head clock_type 0 8 ++ (eight x ++ rest)) = omega arith in
    rw (le-leb _ _ long) (ap (λ (t : ℕ). Ok (clocked (record { 0 = t }))) (be64-eight x rest h))

pub clock-misleads-never : (j : Job) → Body j → (rest : List ℕ)
    → differs (record_of Crate (bytes_as (Some Clock) Careful j ++ rest))
    (record_of Standard (bytes_as (Some Clock) Careful j))
    ≡ false
clock-misleads-never j body rest =
    let x = le64 j.body 0 in
    let h : x < 2 ^ 64 = le64-lt j.body body 0 in
    rw (clock-shows x rest h, (clock-laid x h).shows) (ap not (same_self (numbers_row (clocked (record { 0 = x })))))

-- ---- type 5

-- where more words follow whole entries: the same where they make no further one
same_entries : (ws us : List ℕ) → length ws % 3 ≡ 0
    → same_row (echo_row (echoes_of (ws ++ us))) (echo_row (echoes_of ws)) ≡ ltb (length us) 3
unfolding echoes_of
same_entries [] [] h = refl
same_entries [] (s ∷ []) h = refl
same_entries [] (s ∷ l ∷ []) h = refl
same_entries [] (s ∷ l ∷ d ∷ us) h = sym (le-ltb (length (s ∷ l ∷ d ∷ us)) 3 (omega arith))
same_entries (s ∷ []) us h = absurd (omega arith)
same_entries (s ∷ l ∷ []) us h = absurd (omega arith)
same_entries (s ∷ l ∷ d ∷ ws) us h =
    same-front (s ∷ l ∷ d ∷ []) (echo_row (echoes_of (ws ++ us))) (echo_row (echoes_of ws))
    ∙ same_entries ws us (omega arith)

-- three words are twelve bytes
three-words : (rest : List ℕ) → not (ltb (length (words32 rest)) 3) ≡ leb 12 (length rest)
three-words rest =
    let e = length-words32 rest in
    let k = length (words32 rest) in
    either (leb 12 (length rest))
    (λ t. let h : 12 ≤ length rest = leb-true _ _ t in rw (t, le-ltb k 3 (omega arith)))
    (λ f. let h : length rest < 12 = leb-false _ _ f in rw (f, lt-ltb k 3 (omega arith)))

-- the crate takes a block of n entries where n is 1, 5, 9, ..
entries_fit : (n : ℕ) → eqb ((4 + 12 * n) % 16) 0 ≡ eqb (n % 4) 1
entries_fit zero = refl
entries_fit (suc zero) = refl
entries_fit (suc (suc zero)) = refl
entries_fit (suc (suc (suc zero))) = refl
entries_fit (suc (suc (suc (suc n)))) =
    let a : (4 + 12 * suc (suc (suc (suc n)))) % 16 ≡ (4 + 12 * n) % 16 = omega arith in
    let b : suc (suc (suc (suc n))) % 4 ≡ n % 4 = omega arith in
    rw (a, b) (entries_fit n)

module _ (j : Job) where
  abbrev block : List ℕ
  block = bytes_as (Some Echoes) Careful j

  abbrev entries : ℕ
  entries = length j.body / 12

  module _ (good : eqb (length j.body % 12) 0 ≡ true) (body : Body j) where
    length-body : length j.body ≡ 12 * entries
    length-body = omega (arith, eqb-true (length j.body % 12) 0 good)

    length-block : length block ≡ 4 + 12 * entries
    length-block =
        let l = length-bytes_of four 4 (λ x. refl) (low32 j.body) in
        omega (arith, l, length-low32 j.body, length-body)

    module _ (rest : List ℕ) (small : length (block ++ rest) ≤ max_bytes) where
      announced : block_length (block ++ rest) ≡ 4 + 12 * entries
      announced =
          length-stands (block ++ rest) 0 block rest
          ((laid_as (Some Echoes) Careful j good body).announces (omega (arith, length-append block rest))) refl
          ∙ length-block

      crate-takes : eqb (entries % 4) 1 ≡ true
          → record_of Crate (block ++ rest) ≡ Ok (echoed (echoes_of (low32 j.body ++ words32 rest)))
      unfolding record_of kind_of ranged_of rle_of entries_shown check_of fitness crate_rule
      crate-takes t =
          let one : entries % 4 ≡ 1 = eqb-true _ _ t in
          let long : 16 ≤ length (block ++ rest) = omega (arith, length-append block rest, length-block) in
          rw (announced, le-leb _ _ long, entries_fit entries, t)
          (ap (λ (l : List ℕ). Ok (echoed (echoes_of l)))
          (words32-behind (low32 j.body) rest (under-low32 j.body body)))

      crate-refuses : eqb (entries % 4) 1 ≡ false
          → differs (record_of Crate (block ++ rest)) (record_of Standard block) ≡ false
      unfolding record_of kind_of ranged_of rle_of entries_shown check_of fitness crate_rule
      crate-refuses f =
          rw (announced, entries_fit entries, f)
          (either (leb 16 (length (block ++ rest))) (λ long. rw long) (λ short. rw short))

pub echoes-mislead : (j : Job) → eqb (length j.body % 12) 0 ≡ true → Body j → (rest : List ℕ)
    → length (bytes_as (Some Echoes) Careful j ++ rest) ≤ max_bytes
    → differs (record_of Crate (bytes_as (Some Echoes) Careful j ++ rest))
    (record_of Standard (bytes_as (Some Echoes) Careful j))
    ≡ misled_echoes (length j.body / 12) (length rest)
unfolding misled_echoes numbers_row
echoes-mislead j good body rest small =
    let own = low32 j.body in
    let m : length own % 3 ≡ 0 = omega (arith, length-low32 j.body, length-body j good body) in
    either (eqb (entries j % 4) 1)
    (λ t.
    rw (t, crate-takes j good body rest small t, (laid_as (Some Echoes) Careful j good body).shows)
    (ap not (same_entries own (words32 rest) m) ∙ three-words rest))
    (λ f. rw f (crate-refuses j good body rest small f))

-- ---- type 6

pub sums-bare : (j : Job) (rest : List ℕ)
    → record_of Crate (bytes_as (Some Statistics) Careful j ++ rest) ≡ Ok bare
unfolding record_of kind_of ranged_of rle_of
sums-bare j rest = refl

pub sums-mislead-never : (j : Job) (rest : List ℕ) (standard : Or Record)
    → differs (record_of Crate (bytes_as (Some Statistics) Careful j ++ rest)) standard ≡ false
sums-mislead-never j rest standard = rw (sums-bare j rest)
