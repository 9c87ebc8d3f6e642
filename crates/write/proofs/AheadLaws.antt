-- The records of a list from a place on, where they are good, as a loop passes them. Assumes nothing.
--     Ahead     from a place on stand good records that ask for blocks
use Rattle.std.specs.Prelude.{Ok}
use Prim.Native.Nat.{ℕ, suc, ◌+◌, ◌≤◌, ◌<◌}
use mathlib.Core.Path.{◌≡◌, sym, ap, ◌∙◌}
use mathlib.Core.Bool.{true}
use mathlib.Core.List.{List, ◌∷◌}
use native.Mathlib.Omega.{arith}
use lib.ListN.{length, drop, length-drop}
use Rattle.def_jobs.specs.Jobs.{Job, is_whole, job_at, is_block_job, jobs_fault}
use Rattle.laws.proofs.Tests.{and-true}
use Rattle.jobs.specs.Places.{job_of, next_job, jobs_behind}
use Rattle.jobs.proofs.JobsLaws.{behind-some, fault-good, fine-first}
use Rattle.jobs.proofs.PlaceLaws.{next-whole, behind-next, length-body, job-at}

pub record Ahead (list : List ℕ) (at : ℕ) : Type 0 where
  pub within : at ≤ length list
  pub index : ℕ
  pub fine : jobs_fault (suc index) (jobs_behind (drop at list)) ≡ Ok tt

pub begun : (list : List ℕ) (from : ℕ) → from ≤ length list → jobs_fault 1 (jobs_behind (drop from list)) ≡ Ok tt
    → Ahead list from
begun list from h f = record { within = h; index = 0; fine = f }

module _ (list : List ℕ) (at : ℕ) (w : Ahead list at) (more : at < length list) where
  abbrev pub rest : List Job
  rest = jobs_behind (drop (next_job list at) list)

  good : (is_whole (drop at list) ≡ true) × (is_block_job (job_at (drop at list)) ≡ true)
  good =
      and-true (is_whole (drop at list)) (is_block_job (job_at (drop at list)))
      (fine-first (suc w.index) (drop at list)
      (ap (jobs_fault (suc w.index)) (sym (behind-some (drop at list) (omega (arith, length-drop at list))))
      ∙ w.fine))

  pub whole : is_whole (drop at list) ≡ true
  whole = good.0

  pub next : jobs_behind (drop at list) ≡ job_at (drop at list) ∷ rest
  next = behind-next list at more good.0

  -- the next record begins behind the body
  pub past : (body : List ℕ) → body ≡ (job_at (drop at list)).body → next_job list at ≡ at + (6 + length body)
  past body b =
      rw b (omega (arith, next-whole list at good.0, length-body (drop at list) good.0))

  -- the record as it was read
  pub block : (kind : ℕ) (body : List ℕ) → kind ≡ (job_at (drop at list)).kind → body ≡ (job_at (drop at list)).body
      → is_block_job (job_of kind body) ≡ true
  block kind body k b = ap is_block_job (job-at (drop at list) kind body k b) ∙ good.1

  pub onward : Ahead list (next_job list at)
  onward =
      record {
        within = omega arith;
        index = suc w.index;
        fine = sym
            (fault-good (suc w.index) (job_at (drop at list)) rest good.1)
            ∙ ap (jobs_fault (suc w.index)) (sym next) ∙ w.fine;
      }
