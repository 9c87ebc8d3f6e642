-- A list's records by their places (RULES, "Job lists and writing").
--     job_of         a record of a kind and a body
--     next_job       where the next record begins
--     jobs_behind    the records behind another one: none where the list ends there
use Rattle.std.specs.Prelude.{ℕ, ◌+◌, min, cond, List, [], length, drop, leb}
use Rattle.def_jobs.specs.Jobs.{Job, le32, jobs_of}

abbrev pub job_of : ℕ → List ℕ → Job
job_of kind body = record { kind = kind; body = body }

-- six bytes and the body further on; the list's end where less is left
abbrev pub next_job : List ℕ → ℕ → ℕ
next_job list at = min (at + (6 + le32 (drop at list) 0)) (length list)

unfoldable pub jobs_behind : List ℕ → List Job
jobs_behind s = cond (leb (length s) 0) [] (jobs_of s)
