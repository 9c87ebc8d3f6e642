-- One turn of the loop that writes the blocks of a list's records. Assumes nothing.
--     Writing     the blocks of the records before a place are written, and those from there on are good
use Rattle.std.specs.Prelude.{Ok}
use Prim.Native.Nat.{ℕ, ◌+◌, ◌≤◌, ◌<◌}
use mathlib.Core.Path.{◌≡◌, refl, ap, subst, ◌∙◌}
use mathlib.Core.List.{List, [], ◌∷◌, ◌++◌}
use native.Mathlib.Omega.{arith}
use lib.ListN.{length, drop, length-drop}
use Rattle.def_jobs.specs.declared.Layout.{Layout}
use Rattle.def_jobs.specs.Jobs.{Job, job_at, jobs_fault}
use Rattle.def_jobs.specs.Layout.{block_bytes, blocks_bytes}
use Rattle.laws.specs.Stores.{Wrote}
use Rattle.laws.proofs.Filling.{Storing, start, room_for, wrote, ended}
use Rattle.jobs.specs.Places.{job_of, next_job, jobs_behind}
use Rattle.jobs.proofs.JobsLaws.{behind-none}
use Rattle.jobs.proofs.PlaceLaws.{job-at}
use Rattle.write.proofs.AheadLaws.{Ahead, rest, next, onward}
use Rattle.write.proofs.AheadLaws as ahead

pub record Writing (layout : Layout) (list : List ℕ) (js : List Job) (l₀ : List ℕ) (i : ℕ) (l : List ℕ) (at n : ℕ)
    : Type 0 where
  pub good : Ahead list at
  pub state : Storing l₀ i (blocks_bytes layout js) l (blocks_bytes layout (jobs_behind (drop at list))) n

blocks-next : (layout : Layout) (j : Job) (js : List Job)
    → blocks_bytes layout (j ∷ js) ≡ block_bytes layout j ++ blocks_bytes layout js
unfolding blocks_bytes
blocks-next layout j js = refl

blocks-none : (layout : Layout) → blocks_bytes layout [] ≡ []
unfolding blocks_bytes
blocks-none layout = refl

pub begun : (layout : Layout) (list l : List ℕ) (from i : ℕ) → from ≤ length list
    → jobs_fault 1 (jobs_behind (drop from list)) ≡ Ok tt
    → i + length (blocks_bytes layout (jobs_behind (drop from list))) ≤ length l
    → Writing layout list (jobs_behind (drop from list)) l i l from i
begun layout list l from i h f r = record { good = ahead.begun list from h f; state = start r }

module _ (layout : Layout) (list : List ℕ) (js : List Job) (l₀ : List ℕ) (i : ℕ) (l : List ℕ) (at n : ℕ)
    (w : Writing layout list js l₀ i l at n) where
  module _ (more : at < length list) where
    abbrev others : List Job
    others = rest list at w.good more

    pieces : blocks_bytes layout (jobs_behind (drop at list)) ≡ block_bytes layout (job_at (drop at list))
        ++ blocks_bytes layout others
    pieces = ap (blocks_bytes layout) (next list at w.good more) ∙ blocks-next layout (job_at (drop at list)) others

    -- the record as it was read: the room for its block, and what is left once it is written
    module _ (kind : ℕ) (body : List ℕ) (k : kind ≡ (job_at (drop at list)).kind) (b : body ≡ (job_at (drop at list)).body)
      where
        pub room : n + length (block_bytes layout (job_of kind body)) ≤ length l
        room =
            rw (job-at (drop at list) kind body k b)
            (room_for (block_bytes layout (job_at (drop at list))) (blocks_bytes layout others) pieces w.state)

        pub turned : (l' : List ℕ) (n' : ℕ) → Wrote l n (block_bytes layout (job_of kind body)) l' n'
            → Writing layout list js l₀ i l' (next_job list at) n'
        turned l' n' p =
            record {
              good = onward list at w.good more;
              state = wrote
                  pieces (subst (λ (j : Job). Wrote l n (block_bytes layout j) l' n')
                  (job-at (drop at list) kind body k b) p)
                  w.state;
            }

  pub finished : length list ≤ at → Wrote l₀ i (blocks_bytes layout js) l n
  finished h =
      ended
      (ap (blocks_bytes layout) (behind-none (drop at list) (omega (arith, length-drop at list)))
      ∙ blocks-none layout)
      w.state
