-- JobsLargest: not computed, since 262,144 bytes take long, but by the lengths of what is laid out.
use Rattle.std.specs.Prelude.{Ok, Err}
use Prim.Native.Nat.{ℕ, zero, suc, ◌+◌}
use mathlib.Core.Path.{◌≡◌, refl, ◌∙◌, ap}
use mathlib.Core.Bool.{true, false}
use mathlib.Core.List.{List, [], ◌∷◌, ◌++◌}
use lib.ListN.{length, length-append, get_or}
use native.Mathlib.Omega.{arith}
use Rattle.def_refusals.specs.declared.Refusal.TheVariants.{TooMany, BadRecord}
use Rattle.def_wire.specs.Bytes.{two}
use Rattle.def_wire.specs.Block.{rle_of, ranged_of, kind_of, lost_run, has}
use Rattle.def_jobs.specs.declared.Layout.TheVariants.{Plain, Careful}
use Rattle.def_jobs.specs.Jobs.{jobs_fault, pair_low, is_header_job, is_block_job}
use Rattle.def_jobs.specs.Layout.{bytes_of, zeros_behind, block_bytes, blocks_bytes, layout_of}
use Rattle.def_jobs.specs.Writing.{write_fault}
use Rattle.examples.specs.JobsLargest.{ones, one_block, lost-behind, Words131062}
use Rattle.examples.proofs.JobsSize.{of-any-list-hold}

-- the body's bytes, the words that they are, and the last of these
length-ones : (n : ℕ) → length (ones n) ≡ n + n
unfolding ones
length-ones zero = refl
length-ones (suc n) = let h : length (ones n) ≡ n + n = length-ones n in omega (arith, h)

words_count : (n : ℕ) → length (pair_low 256 (ones n)) ≡ n
unfolding ones pair_low
words_count zero = refl
words_count (suc n) = ap suc (words_count n)

last_word : (n : ℕ) → get_or (pair_low 256 (ones (suc n))) n 0 ≡ 257
unfolding ones pair_low
last_word zero = refl
last_word (suc n) = last_word n

-- none of them is a run of no length; one that stands behind them is
clear-words : (n : ℕ) → has lost_run (pair_low 256 (ones n)) ≡ false
unfolding ones pair_low has
clear-words zero = refl
clear-words (suc n) = clear-words n

lost-words : (n : ℕ) → has lost_run (pair_low 256 (ones n ++ (0 ∷ 64 ∷ []))) ≡ true
unfolding ones pair_low has
lost-words zero = refl
lost-words (suc n) = lost-words n

length-lost : (n : ℕ) → length (ones n ++ (0 ∷ 64 ∷ [])) ≡ n + n + 2
length-lost n =
    let h : length (ones n) ≡ n + n = length-ones n in length-append (ones n) (0 ∷ 64 ∷ []) ∙ omega (arith, h)

-- the bytes of n words, of what stands behind them, and of no further block and no padding
length-laid : (ws zs : List ℕ) (n : ℕ) → length ws ≡ n → length (bytes_of two ws ++ zs ++ [] ++ []) ≡ n + n + length zs
length-laid [] zs n e = length-append (zs ++ []) [] ∙ (rw (length-append zs []) (omega (arith, e)))
length-laid (w ∷ ws) zs n e =
    let m : ℕ = length ws in
    let h : length (bytes_of two ws ++ zs ++ [] ++ []) ≡ m + m + length zs = length-laid ws zs m refl in
    omega (arith, h, e)

-- the records are good: fields, and whole words; or not
good-131062 : jobs_fault 0 (one_block 131062) ≡ Ok tt
unfolding rle_of ranged_of kind_of is_header_job is_block_job jobs_fault
good-131062 = let e : length (ones 131062) ≡ 262124 = length-ones 131062 in rw (e, clear-words 131062)

good-131063 : jobs_fault 0 (one_block 131063) ≡ Ok tt
unfolding rle_of ranged_of kind_of is_header_job is_block_job jobs_fault
good-131063 = let e : length (ones 131063) ≡ 262126 = length-ones 131063 in rw (e, clear-words 131063)

bad-131061 : jobs_fault 0 (lost-behind 131061) ≡ Err (BadRecord 1)
unfolding rle_of ranged_of kind_of is_header_job is_block_job jobs_fault
bad-131061 =
    let e : length (ones 131061 ++ (0 ∷ 64 ∷ [])) ≡ 262124 = length-lost 131061 in rw (e, lost-words 131061)

bad-131062 : jobs_fault 0 (lost-behind 131062) ≡ Err (BadRecord 1)
unfolding rle_of ranged_of kind_of is_header_job is_block_job jobs_fault
bad-131062 =
    let e : length (ones 131062 ++ (0 ∷ 64 ∷ [])) ≡ 262126 = length-lost 131062 in rw (e, lost-words 131062)

-- the packets' lengths
plain-131062 : length (layout_of Plain (one_block 131062)) ≡ 262144
unfolding rle_of ranged_of kind_of zeros_behind block_bytes blocks_bytes layout_of
plain-131062 =
    let e : length (pair_low 256 (ones 131062)) ≡ 131062 = words_count 131062 in
    rw (e, length-laid (pair_low 256 (ones 131062)) [] 131062 e)

plain-131063 : length (layout_of Plain (one_block 131063)) ≡ 262148
unfolding rle_of ranged_of kind_of zeros_behind block_bytes blocks_bytes layout_of
plain-131063 =
    let e : length (pair_low 256 (ones 131063)) ≡ 131063 = words_count 131063 in
    rw (e, length-laid (pair_low 256 (ones 131063)) (0 ∷ 0 ∷ []) 131063 e)

careful-131062 : length (layout_of Careful (one_block 131062)) ≡ 262148
unfolding rle_of ranged_of kind_of zeros_behind block_bytes blocks_bytes layout_of
careful-131062 =
    let e : length (pair_low 256 (ones 131062)) ≡ 131062 = words_count 131062 in
    let l : get_or (pair_low 256 (ones 131062)) 131061 0 ≡ 257 = last_word 131061 in
    rw (e, l, length-laid (pair_low 256 (ones 131062)) (0 ∷ 0 ∷ 0 ∷ 0 ∷ []) 131062 e)

pub words131062-hold : Words131062
unfolding write_fault
words131062-hold =
    record {
      plain = of-any-list-hold.plain-within (one_block 131062) good-131062 refl (rw plain-131062);
      careful =
          of-any-list-hold.over Careful (one_block 131062) good-131062 refl (rw careful-131062)
          ∙ ap (λ n. Err (TooMany n 262144)) careful-131062;
      one_more =
          of-any-list-hold.over Plain (one_block 131063) good-131063 refl (rw plain-131063)
          ∙ ap (λ n. Err (TooMany n 262144)) plain-131063;
      lost-run = (rw bad-131061, rw bad-131061, rw bad-131062);
    }
