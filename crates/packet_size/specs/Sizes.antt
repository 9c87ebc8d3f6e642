-- How many bytes the packet of a job list has (RULES, "Job lists and writing").
--     is_header_at    a whole and good header record stands first
--     is_block_at     a whole and good record that asks for a block stands first
--     judged_first   how many bytes the block of the record that stands first has, 0 where it is cut or bad
--     on_sized       the size, where a check is fine
--     size_answer    how many bytes the packet of a list of records has, or 12, then 14
--     rest_answer    the same behind a good header record, which alone makes a packet of so many bytes
use Rattle.std.specs.Prelude.{ℕ, ◌+◌, ◌-◌, Bool, cond, ◌&&◌, List, length, Ok, Err}
use Rattle.def_refusals.specs.Answers.{then_check, Or}
use Rattle.def_jobs.specs.declared.Layout.{Layout}
use Rattle.def_jobs.specs.Jobs.{Job, is_whole, job_at, is_header_job, is_block_job, jobs_fault}
use Rattle.def_jobs.specs.Layout.{blocks_bytes, layout_of}
use Rattle.def_jobs.specs.Writing.{size_fault}
use Rattle.block_size.specs.Judged.{judged_size}

abbrev pub is_header_at : List ℕ → Bool
is_header_at s = is_whole s && is_header_job (job_at s)

abbrev pub is_block_at : List ℕ → Bool
is_block_at s = is_whole s && is_block_job (job_at s)

abbrev pub judged_first : Layout → List ℕ → ℕ
judged_first layout s = cond (is_whole s) (judged_size layout (job_at s)) 0

abbrev pub on_sized : Or (Unit {0}) → ℕ → Or ℕ
on_sized (Ok _) n = Ok n
on_sized (Err x) n = Err x

unfoldable pub size_answer : Layout → List Job → Or ℕ
size_answer layout js =
    on_sized (then_check (jobs_fault 0 js) (size_fault (length js - 1) (length (layout_of layout js))))
    (length (layout_of layout js))

unfoldable pub rest_answer : Layout → ℕ → List Job → Or ℕ
rest_answer layout start js =
    on_sized (then_check (jobs_fault 1 js) (size_fault (length js) (start + length (blocks_bytes layout js))))
    (start + length (blocks_bytes layout js))
