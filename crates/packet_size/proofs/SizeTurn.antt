-- One turn of the pass over a list's records, on plain lists and numbers. Assumes nothing.
--     Sizing      after so many good blocks of so many bytes, the pass stands at a place, and the rest is still to come
use Rattle.std.specs.Prelude.{Err}
use Prim.Native.Nat.{ℕ, suc, ◌+◌, ◌-◌, ◌≤◌, ◌<◌}
use mathlib.Core.Path.{◌≡◌, refl, sym, ap, ◌∙◌}
use mathlib.Core.Bool.{true, false}
use mathlib.Core.List.{List}
use native.Mathlib.Numerals.{add-one}
use native.Mathlib.Omega.{arith}
use lib.ListN.{length, drop, length-drop}
use Rattle.laws.proofs.Tests.{and-true}
use Rattle.def_refusals.specs.declared.Refusal.TheVariants.{BadRecord}
use Rattle.def_jobs.specs.declared.Layout.{Layout}
use Rattle.def_jobs.specs.Jobs.{Job, is_whole, job_at, is_block_job, jobs_fault}
use Rattle.def_jobs.specs.Layout.{block_bytes, blocks_bytes}
use Rattle.def_jobs.specs.Writing.{size_fault}
use Rattle.jobs.specs.Places.{next_job, jobs_behind}
use Rattle.jobs.proofs.JobsLaws.{behind-none, behind-some, fault-good, fault-none, fault-first}
use Rattle.jobs.proofs.PlaceLaws.{whole-short, next-whole, next-rest, behind-next, length-body}
use Rattle.block_size.proofs.LayoutLaws.{block-fits}
use Rattle.packet_size.specs.Sizes.{is_block_at, judged_first, on_sized, rest_answer}
use Rattle.packet_size.proofs.LayoutLaws.{length-blocks, length-blocks-none}
use Rattle.packet_size.proofs.FirstLaws.{first-size, first_good, first-bad}
use Rattle.packet_size.proofs.SizeLaws.{rest-bad, rest-fine}

pub record Sizing (layout : Layout) (list : List ℕ) (start : ℕ) (js : List Job) (at blocks bytes : ℕ) : Type 0 where
  pub within : at ≤ length list
  pub few : blocks ≤ at
  pub small : bytes ≤ 260 + at
  pub fault : jobs_fault (suc blocks) (jobs_behind (drop at list)) ≡ jobs_fault 1 js
  pub count : blocks + length (jobs_behind (drop at list)) ≡ length js
  pub size : bytes + length (blocks_bytes layout (jobs_behind (drop at list))) ≡ start + length (blocks_bytes layout js)

module _ (layout : Layout) (list : List ℕ) (start : ℕ) where
  pub begun : (from : ℕ) → from ≤ length list → start ≤ 260
      → Sizing layout list start (jobs_behind (drop from list)) from 0 start
  begun from h k =
      record { within = h; few = omega arith; small = omega arith; fault = refl; count = omega arith; size = refl }

  module _ (js : List Job) (at blocks bytes : ℕ) (z : Sizing layout list start js at blocks bytes) where
    module _ (more : at < length list) where
      module _ (good : is_block_at (drop at list) ≡ true) where
        whole : is_whole (drop at list) ≡ true
        whole = (and-true (is_whole (drop at list)) (is_block_job (job_at (drop at list))) good).0

        block : is_block_job (job_at (drop at list)) ≡ true
        block = (and-true (is_whole (drop at list)) (is_block_job (job_at (drop at list))) good).1

        -- the block is no longer than the record, so no sum overflows
        room : length (block_bytes layout (job_at (drop at list))) ≤ next_job list at - at
        room =
            omega (
              arith,
              next-whole list at whole,
              length-body (drop at list) whole,
              block-fits layout (job_at (drop at list)) block,
            )

        ahead : at < next_job list at
        ahead = omega (arith, next-whole list at whole)

        turned : Sizing layout list start js (next_job list at) (blocks + 1)
            (bytes + length (block_bytes layout (job_at (drop at list))))
        turned =
            let e = behind-next list at more whole in
            let j = job_at (drop at list) in
            let rest = jobs_behind (drop (next_job list at) list) in
            record {
              within = omega arith;
              few = omega (arith, ahead, z.few);
              small = omega (arith, ahead, room, z.small);
              fault = ap
                  (λ (i : ℕ). jobs_fault (suc i) rest) (add-one blocks)
                  ∙ sym (fault-good (suc blocks) j rest block) ∙ ap (jobs_fault (suc blocks)) (sym e) ∙ z.fault;
              count = omega (arith, z.count, ap length e);
              size = omega (
                arith,
                z.size,
                ap (λ (l : List Job). length (blocks_bytes layout l)) e,
                length-blocks layout j rest,
              );
            }

      -- the record as the pass reads it, first in the rest of the list
      module _ (s : List ℕ) (r : s ≡ drop at list) (size : ℕ) (e : size ≡ judged_first layout s) where
        first : size ≡ judged_first layout (drop at list)
        first = e ∙ ap (judged_first layout) r

        pub stopped : size ≡ 0 → is_block_at (drop at list) ≡ false
        stopped h = first-bad layout (drop at list) size first h

        module _ (some : size ≡ 0 → ⊥) (step : ℕ) (k : step ≡ next_job s 0) where
          good : is_block_at (drop at list) ≡ true
          good = first_good layout (drop at list) size first some

          pub further : at < at + step
          further = rw (next-rest list at z.within s r step k) (ahead good)

          pub stepped : Sizing layout list start js (at + step) (blocks + 1) (bytes + size)
          stepped =
              rw (next-rest list at z.within s r step k, first-size layout (drop at list) size first good)
              (turned good)

      -- a bad record ends the pass: 12 with its index
      pub refused : is_block_at (drop at list) ≡ false → Err (BadRecord (blocks + 1)) ≡ rest_answer layout start js
      refused bad =
          rw add-one
          (rest-bad layout start js (BadRecord (suc blocks))
          (sym z.fault
          ∙ ap (jobs_fault (suc blocks)) (behind-some (drop at list) (omega (arith, length-drop at list)))
          ∙ fault-first (suc blocks) (drop at list) bad))

    -- less than six bytes are no record
    pub cut_short : length list - at < 6 → is_block_at (drop at list) ≡ false
    cut_short h = let w = whole-short list at (length list - at) refl h in rw (← w)

    -- no record is left: 14, or the size
    pub ended : length list ≤ at → on_sized (size_fault blocks bytes) bytes ≡ rest_answer layout start js
    ended h =
        let e = behind-none (drop at list) (omega (arith, length-drop at list)) in
        rest-fine layout start js blocks bytes
        (sym z.fault ∙ ap (jobs_fault (suc blocks)) e ∙ fault-none (suc blocks))
        (omega (arith, z.count, ap length e))
        (omega (
          arith,
          z.size,
          ap (λ (l : List Job). length (blocks_bytes layout l)) e,
          length-blocks-none layout,
        ))
