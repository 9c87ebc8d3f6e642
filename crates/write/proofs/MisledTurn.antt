-- One turn of the loop that looks for the first record that misleads. Assumes nothing.
--     Looking     no record before a place misleads, and how many bytes the blocks from there on have
use Rattle.std.specs.Prelude.{Ok, Err}
use Prim.Native.Nat.{ℕ, suc, ◌+◌, ◌-◌, ◌≤◌, ◌<◌}
use mathlib.Core.Path.{◌≡◌, refl, sym, ap, ◌∙◌}
use mathlib.Core.Bool.{true, false}
use mathlib.Core.List.{List}
use native.Mathlib.Omega.{arith}
use lib.ListN.{length, drop, length-drop}
use Rattle.def_refusals.specs.declared.Refusal.TheVariants.{Misleads}
use Rattle.def_jobs.specs.declared.Layout.TheVariants.{Careful}
use Rattle.def_jobs.specs.Jobs.{Job, job_at, jobs_fault}
use Rattle.def_jobs.specs.Layout.{block_bytes, blocks_bytes}
use Rattle.jobs.specs.Places.{job_of, next_job, jobs_behind}
use Rattle.jobs.proofs.JobsLaws.{behind-none}
use Rattle.jobs.proofs.PlaceLaws.{job-at}
use Rattle.packet_size.proofs.LayoutLaws.{length-blocks}
use Rattle.misled.specs.Misled.{misled_by, misled_fault}
use Rattle.write.proofs.AheadLaws.{Ahead, rest, next, past, onward}
use Rattle.write.proofs.AheadLaws as ahead

pub record Looking (list : List ℕ) (js : List Job) (at behind k : ℕ) : Type 0 where
  pub good : Ahead list at
  pub few : k ≤ at
  pub bytes : behind ≡ length (blocks_bytes Careful (jobs_behind (drop at list)))
  pub none : misled_fault 0 js ≡ misled_fault k (jobs_behind (drop at list))

pub begun : (list : List ℕ) (from bytes : ℕ) → from ≤ length list → jobs_fault 1 (jobs_behind (drop from list)) ≡ Ok tt
    → bytes ≡ length (blocks_bytes Careful (jobs_behind (drop from list)))
    → Looking list (jobs_behind (drop from list)) from bytes 0
begun list from bytes h f e = record { good = ahead.begun list from h f; few = omega arith; bytes = e; none = refl }

module _ (list : List ℕ) (js : List Job) (at behind k : ℕ) (w : Looking list js at behind k) where
  module _ (more : at < length list) (kind : ℕ) (body : List ℕ) (i : kind ≡ (job_at (drop at list)).kind)
      (b : body ≡ (job_at (drop at list)).body) (size : ℕ)
      (z : size ≡ length (block_bytes Careful (job_of kind body))) where
    abbrev others : List Job
    others = rest list at w.good more

    sized : behind ≡ size + length (blocks_bytes Careful others)
    sized =
        w.bytes ∙ ap (λ (l : List Job). length (blocks_bytes Careful l)) (next list at w.good more)
        ∙ length-blocks Careful (job_at (drop at list)) others
        ∙ ap (λ (n : ℕ). n + length (blocks_bytes Careful others))
        (sym (z ∙ ap (λ (j : Job). length (block_bytes Careful j)) (job-at (drop at list) kind body i b)))

    pub room : size ≤ behind
    room = omega (arith, sized)

    left : behind - size ≡ length (blocks_bytes Careful others)
    left = omega (arith, sized)

    judged : misled_by (job_of kind body) (behind - size)
        ≡ misled_by (job_at (drop at list)) (length (blocks_bytes Careful others))
    judged = rw (left, job-at (drop at list) kind body i b)

    pub found : misled_by (job_of kind body) (behind - size) ≡ true → Err (Misleads k) ≡ misled_fault 0 js
    unfolding misled_fault
    found t = sym (w.none ∙ ap (misled_fault k) (next list at w.good more) ∙ (rw (sym judged ∙ t)))

    pub turned : misled_by (job_of kind body) (behind - size) ≡ false
        → Looking list js (next_job list at) (behind - size) (k + 1)
    unfolding misled_fault
    turned f =
        let s : k + 1 ≡ suc k = omega arith in
        record {
          good = onward list at w.good more;
          few = omega (arith, past list at w.good more body b, w.few);
          bytes = left;
          none = rw s (w.none ∙ ap (misled_fault k) (next list at w.good more) ∙ (rw (sym judged ∙ f)));
        }

  pub finished : length list ≤ at → (Ok tt) ≡ misled_fault 0 js
  unfolding misled_fault
  finished h =
      sym (w.none ∙ ap (misled_fault k) (behind-none (drop at list) (omega (arith, length-drop at list))))
