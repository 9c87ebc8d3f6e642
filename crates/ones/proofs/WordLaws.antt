-- The numbers of one word's ones, up to a place and from one on, by kinds. Assumes nothing.
use Rattle.std.proofs.Common.{◌≡◌, ℕ, ◌/◌, ◌%◌, ◌<◌, ◌≤◌, min, [], length, take, sym, refl, ap, arith}
use Rattle.def_standard.specs.Chunks.{values_in}
use Rattle.chunk.specs.Ones.{ones_before}
use Rattle.chunk.proofs.ChunkLaws.{length-values_in, values-take-run, covers-vector}
use Rattle.utils.proofs.PartLaws.{take-cut}
use Rattle.ones.specs.Along.{progression, along}
use Rattle.ones.proofs.ListingLaws.{along-ones, along-zeros, length-along}

module _ (step first room w : ℕ) where
  -- zeros list nothing
  pub word-zeros : w < 16384 → along step first (take room (values_in w)) ≡ []
  word-zeros h =
      let e : w / 16384 % 2 ≡ 0 = omega arith in
      rw (values-take-run w room (omega arith), e) (along-zeros step first (min room (w % 16384)))

  -- ones list a progression
  pub word_ones : 16384 ≤ w → w < 32768
      → along step first (take room (values_in w)) ≡ progression step first (min room (w % 16384))
  word_ones h k =
      let e : w / 16384 % 2 ≡ 1 = omega arith in
      rw (values-take-run w room k, e) (along-ones step first (min room (w % 16384)))

  -- a vector has 15 places
  pub word-vector : 32768 ≤ w
      → along step first (take (min room 15) (values_in w)) ≡ along step first (take room (values_in w))
  word-vector h =
      ap (along step first) (take-cut (values_in w) room (min room 15) (rw (length-values_in w, covers-vector w h) refl))

-- as many as `ones_before` counts
pub length-ones : (step first room w : ℕ)
    → length (ones_before w room) ≡ length (along step first (take room (values_in w)))
unfolding ones_before
length-ones step first room w = sym (length-along step first 0 (take room (values_in w)))

-- the same step, place and word list the same
pub along-same : {step step' room room' w w' : ℕ} (first : ℕ) → step ≡ step' → room ≡ room' → w ≡ w'
    → along step first (take room (values_in w)) ≡ along step' first (take room' (values_in w'))
along-same first s r e = rw (s, r, e)
