-- Worked facts of `misled_by`, each computed: records whose block misleads an old reader, and such that look like them
-- and do not.
--     low, loss, times, entries       how they are written down
--     Words, words-hold               types 1 and 2
--     OfTimes, times-hold             type 3
--     Entries, entries-hold           type 5
--     Others, others-hold             clocks, summaries, and records that ask for no block
--     First, first-hold               15 with the first of several records, and what stands behind each
use Rattle.std.specs.Prelude.{Ok, Err}
use Rattle.std.proofs.Common.{◌≡◌, ℕ, ◌*◌, ◌/◌, ◌%◌, Bool, true, false, List, [], ◌∷◌, ◌++◌, replicate, refl}
use Rattle.def_wire.specs.Block.{rle_of, ranged_of, kind_of, has}
use Rattle.def_standard.specs.Chunks.{values_in}
use Rattle.def_standard.specs.Range.{ahead_of, range_of, offset_of, inside, number_of}
use Rattle.def_crate.specs.Sequence.{passes}
use Rattle.range.specs.Inside.{ceil_div, inside_count}
use Rattle.range.specs.Failing.{first_fail}
use Rattle.def_refusals.specs.declared.Refusal.TheVariants.{Misleads}
use Rattle.def_jobs.specs.Jobs.{Job, pair_low, is_block_job}
use Rattle.def_jobs.specs.Layout.{block_bytes, blocks_bytes}
use Rattle.jobs.specs.Places.{job_of}
use Rattle.misled.specs.Misled.{shared_of, outside_from, goes_on, misled_times, misled_echoes}
use Rattle.misled.specs.Misled.{misled_by, misled_fault}

-- numbers of two bytes, the least significant first
abbrev pub low : List ℕ → List ℕ
low [] = []
low (x ∷ xs) = x % 256 ∷ x / 256 ∷ low xs

-- a loss record of SSRC 7 with begin, end, thinning and words, as the last block
abbrev pub loss : ℕ → ℕ → ℕ → List ℕ → Bool
loss b e t ws = misled_by (job_of 1 (low (7 ∷ 0 ∷ b ∷ e ∷ t ∷ ws))) 0

pub record Words : Type 0 where
  -- a range of two, and a third one: in a word of its own, whose start then lies at end or past it, it passes; in a
  -- word that begins inside it fails, and ends the list
  pub of_two :
      (loss 10 12 0 (16386 ∷ 16385 ∷ []) ≡ true) × (loss 10 12 0 (2 ∷ 16385 ∷ []) ≡ true)
      × (loss 10 12 0 (16387 ∷ []) ≡ false) × (loss 10 12 0 (16387 ∷ 16385 ∷ []) ≡ false)
  -- a range at the top of the circle, and a vector with ones at places 0 and 6, which has the number 0
  pub near-the-top : loss 65530 65531 0 (49408 ∷ []) ≡ true
  -- two positions on the circle, and a third one on the first's number
  pub around : (loss 0 0 15 (16387 ∷ []) ≡ true) × (loss 0 40000 15 (16387 ∷ []) ≡ true)
  -- begin off the grid: any one that an old reader lists, inside the range or not; no ones, or a first one that fails,
  -- which is past the range, mislead nobody
  pub off-the-grid :
      (loss 5 20 2 [] ≡ false) × (loss 5 20 2 (3 ∷ []) ≡ false) × (loss 5 20 2 (16385 ∷ []) ≡ true)
      × (loss 5 8 2 (16385 ∷ []) ≡ true) × (loss 5 20 2 (32776 ∷ []) ≡ false) × (loss 5 20 2 (4 ∷ 16385 ∷ []) ≡ true)
  -- and where it is one up, on it
  pub on-the-grid : (loss 8 20 2 (16385 ∷ []) ≡ false) × (loss 8 20 2 (16387 ∷ 16385 ∷ []) ≡ true)

pub words-hold : Words
unfolding rle_of ranged_of kind_of has values_in ahead_of range_of offset_of inside number_of passes pair_low is_block_job
    shared_of outside_from goes_on misled_by
words-hold =
    record {
      of_two = (refl, refl, refl, refl);
      near-the-top = refl;
      around = (refl, refl);
      off-the-grid = (refl, refl, refl, refl, refl, refl);
      on-the-grid = (refl, refl);
    }

-- a record of times in a range of two numbers, with so many bytes behind the block; and by a thinning
abbrev pub thinned : ℕ → List ℕ → ℕ → Bool
thinned t ts behind = misled_by (job_of 3 (low (7 ∷ 0 ∷ 5 ∷ 7 ∷ t ∷ ts))) behind

abbrev pub times : List ℕ → ℕ → Bool
times = thinned 0

pub record OfTimes : Type 0 where
  -- one own time: four bytes behind it are taken for a second
  pub one : (times (1 ∷ 0 ∷ []) 0 ≡ false) × (times (1 ∷ 0 ∷ []) 3 ≡ false) × (times (1 ∷ 0 ∷ []) 4 ≡ true)
  -- two: the range ends the list
  pub two : times (1 ∷ 0 ∷ 2 ∷ 0 ∷ []) 4 ≡ false
  -- begin off the grid: one time, own or behind the block, is listed with begin; no time misleads nobody
  pub off-the-grid : (thinned 1 [] 3 ≡ false) × (thinned 1 [] 4 ≡ true) × (thinned 1 (1 ∷ 0 ∷ []) 0 ≡ true)

pub times-hold : OfTimes
unfolding rle_of ranged_of kind_of ahead_of range_of ceil_div inside_count first_fail pair_low is_block_job shared_of misled_times
    misled_by
times-hold = record { one = (refl, refl, refl); two = refl; off-the-grid = (refl, refl, refl) }

-- a record of so many entries, with so many bytes behind the block
abbrev pub entries : ℕ → ℕ → Bool
entries n behind = misled_by (job_of 5 (replicate (12 * n) 0)) behind

pub record Entries : Type 0 where
  pub one : (entries 1 8 ≡ false) × (entries 1 12 ≡ true)
  pub two : entries 2 12 ≡ false
  pub five : entries 5 12 ≡ true

pub entries-hold : Entries
unfolding rle_of ranged_of kind_of is_block_job misled_echoes misled_by
entries-hold = record { one = (refl, refl); two = refl; five = refl }

-- a clock misleads nobody, and neither does a summary; nor does a record that is bad, though a good one of its kind
-- would: 13 bytes of entries, a thinning of 16, an odd byte of words, a kind that no block has
pub record Others : Type 0 where
  pub clock : misled_by (job_of 4 (replicate 8 0)) 12 ≡ false
  pub summary : misled_by (job_of 6 (replicate 38 0)) 12 ≡ false
  pub bad-entries : misled_by (job_of 5 (replicate 13 0)) 12 ≡ false
  pub bad-thinning : loss 10 12 16 (16386 ∷ 16385 ∷ []) ≡ false
  pub bad-words : misled_by (job_of 1 (low (7 ∷ 0 ∷ 10 ∷ 12 ∷ 0 ∷ 16386 ∷ 16385 ∷ []) ++ (0 ∷ []))) 0 ≡ false
  pub no_kind : misled_by (job_of 7 (replicate 12 0)) 12 ≡ false

pub others-hold : Others
unfolding rle_of ranged_of kind_of is_block_job misled_echoes misled_by
others-hold =
    record {
      clock = refl;
      summary = refl;
      bad-entries = refl;
      bad-thinning = refl;
      bad-words = refl;
      no_kind = refl;
    }

-- one entry, a clock of 12 bytes, and a summary of 40
abbrev pub echo : Job
echo = job_of 5 (replicate 12 0)

abbrev pub clock : Job
clock = job_of 4 (replicate 8 0)

abbrev pub summary : Job
summary = job_of 6 (replicate 38 0)

pub record First : Type 0 where
  pub none : misled_fault 0 (clock ∷ clock ∷ echo ∷ []) ≡ Ok tt
  pub second : misled_fault 0 (clock ∷ echo ∷ clock ∷ []) ≡ Err (Misleads 1)
  -- a summary's bytes count behind an entry, and nothing behind a summary does
  pub behind : misled_fault 0 (echo ∷ summary ∷ []) ≡ Err (Misleads 0)
  pub before : misled_fault 0 (summary ∷ echo ∷ []) ≡ Ok tt
  -- the first of two; counted from the given index on
  pub first : misled_fault 3 (echo ∷ echo ∷ clock ∷ []) ≡ Err (Misleads 3)

pub first-hold : First
unfolding rle_of ranged_of kind_of is_block_job misled_echoes misled_by misled_fault pair_low block_bytes blocks_bytes
first-hold = record { none = refl; second = refl; behind = refl; before = refl; first = refl }
