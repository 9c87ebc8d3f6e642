-- The record that stands first, judged as it was read. Assumes nothing.
--     judged-at, judged-cut     how many bytes its block has
--     header_at, header-cut     whether it is a good header record
--     first-*                   what the size says of it
use Prim.Native.Nat.{ℕ}
use mathlib.Core.Path.{◌≡◌, ap, ◌∙◌}
use mathlib.Core.Bool.{true, false}
use mathlib.Core.List.{List}
use native.Mathlib.Omega.{arith}
use lib.ListN.{length}
use Rattle.laws.proofs.Tests.{either, and-true}
use Rattle.def_jobs.specs.declared.Layout.{Layout}
use Rattle.def_jobs.specs.Jobs.{le16, is_whole, job_at, is_header_job, is_block_job}
use Rattle.def_jobs.specs.Layout.{block_bytes}
use Rattle.jobs.specs.Places.{job_of}
use Rattle.jobs.proofs.PlaceLaws.{job-at}
use Rattle.block_size.specs.Judged.{judged_size}
use Rattle.block_size.proofs.LayoutLaws.{block-least}
use Rattle.packet_size.specs.Sizes.{is_header_at, is_block_at, judged_first}

-- as it was read
module _ (s : List ℕ) (k : ℕ) (b : List ℕ) (e : k ≡ le16 s 4) (f : b ≡ (job_at s).body) where
  pub judged-at : (layout : Layout) → is_whole s ≡ true → judged_size layout (job_of k b) ≡ judged_first layout s
  judged-at layout w = ap (judged_size layout) (job-at s k b e f) ∙ (rw w)

  pub header_at : is_whole s ≡ true → is_header_job (job_of k b) ≡ is_header_at s
  header_at w = ap is_header_job (job-at s k b e f) ∙ (rw w)

pub judged-cut : (s : List ℕ) (layout : Layout) → is_whole s ≡ false → 0 ≡ judged_first layout s
judged-cut s layout w = rw w

pub header-cut : (s : List ℕ) → is_whole s ≡ false → false ≡ is_header_at s
header-cut s w = rw w

-- what its size says
module _ (layout : Layout) (s : List ℕ) (n : ℕ) (e : n ≡ judged_first layout s) where
  pub first-size : is_block_at s ≡ true → n ≡ length (block_bytes layout (job_at s))
  first-size g = let p = and-true (is_whole s) (is_block_job (job_at s)) g in rw (p.0, p.1) at e

  pub first_good : (n ≡ 0 → ⊥) → is_block_at s ≡ true
  first_good k =
      either (is_whole s)
      (λ w. either (is_block_job (job_at s)) (λ g. rw (w, g)) (λ g. absurd (k (rw (w, g) at e))))
      (λ w. absurd (k (rw w at e)))

  pub first-bad : n ≡ 0 → is_block_at s ≡ false
  first-bad z =
      either (is_whole s)
      (λ w. either (is_block_job (job_at s))
      (λ g. let k : n ≡ length (block_bytes layout (job_at s)) = rw (w, g) at e in
      absurd (omega (arith, block-least layout (job_at s) g)))
      (λ g. rw (w, g)))
      (λ w. rw w)
