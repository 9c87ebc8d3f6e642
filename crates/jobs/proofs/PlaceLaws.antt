-- A record at a place of a list, read in the whole list. Assumes nothing.
--     whole-*              whether it is whole
--     body-*               its body, as a part of the list
--     next-*, behind-next  the next record's place, and the records from there on
--     job-at               the record as it was read
use Prim.Native.Nat.{ℕ, ◌+◌, ◌-◌, ◌≤◌, ◌<◌, min}
use mathlib.Core.Path.{◌≡◌, sym, ap, ap₂, ◌∙◌}
use mathlib.Core.Bool.{true, false}
use mathlib.Core.List.{List, ◌∷◌}
use native.Mathlib.Omega.{arith}
use lib.ListN.{length, take, drop, length-drop, length-take}
use lib.Seq.{drop-drop}
use borrow.Author.Tests.{lt-leb}
use Rattle.utils.proofs.PartLaws.{drop-cut}
use Rattle.def_wire.specs.Packet.{start_from}
use Rattle.def_jobs.specs.Jobs.{le16, le32, is_whole, job_at}
use Rattle.little_endian.proofs.LowLaws.{le32-here}
use Rattle.jobs.specs.Places.{job_of, next_job, jobs_behind}
use Rattle.jobs.proofs.JobsLaws.{whole_is, behind-some, jobs-next}

module _ (list : List ℕ) (at left : ℕ) (e : left ≡ length list - at) where
  pub whole-short : left < 6 → false ≡ is_whole (drop at list)
  whole-short h = let k : length (drop at list) < 6 = omega (arith, length-drop at list) in rw (lt-leb _ _ k)

-- m is the place, or the list's end where that comes first
module _ (list : List ℕ) (at m : ℕ) (e : m ≡ min at (length list)) where
  pub body-cut : (n : ℕ) → n ≡ le32 list at → take n (drop (m + 6) list) ≡ (job_at (drop at list)).body
  body-cut n k =
      ap₂ take (k ∙ sym (le32-here at list)) (sym (drop-drop 6 m list) ∙ ap (drop 6) (drop-cut list at m e))

  pub body-start : (p : ℕ × ℕ) → start_from p list (m + 6) ≡ start_from p list (at + 6)
  body-start p = let k : min (m + 6) (length list) ≡ min (at + 6) (length list) = omega arith in rw k

  pub next-cut : (n to : ℕ) → n ≡ le32 list at → to ≡ min (6 + n) (length list - m) → m + to ≡ next_job list at
  next-cut n to k t = omega (arith, le32-here at list)

-- a whole record lies in the list
pub whole-within : (list : List ℕ) (at : ℕ) → is_whole (drop at list) ≡ true → at + 6 + le32 list at ≤ length list
whole-within list at e =
    let w = whole_is (drop at list) e in omega (arith, w.six, w.body, le32-here at list, length-drop at list)

-- the record as it was read
pub job-at : (s : List ℕ) (k : ℕ) (b : List ℕ) → k ≡ le16 s 4 → b ≡ (job_at s).body → job_of k b ≡ job_at s
job-at s k b e f = ap₂ job_of e f

-- the place behind a whole record
pub next-whole : (list : List ℕ) (at : ℕ) → is_whole (drop at list) ≡ true
    → next_job list at ≡ at + (6 + le32 (drop at list) 0)
next-whole list at e =
    let w = whole_is (drop at list) e in omega (arith, w.six, w.body, length-drop at list)

-- the same place, counted in the rest of the list
pub next-rest : (list : List ℕ) (at : ℕ) → at ≤ length list → (s : List ℕ) → s ≡ drop at list → (step : ℕ)
    → step ≡ next_job s 0 → at + step ≡ next_job list at
next-rest list at h s r step k =
    let e : step ≡ next_job (drop at list) 0 = k ∙ ap (λ (l : List ℕ). next_job l 0) r in
    omega (arith, e, length-drop at list)

-- from a place inside on: a whole record, and those from the next place on
pub behind-next : (list : List ℕ) (at : ℕ) → at < length list → is_whole (drop at list) ≡ true
    → jobs_behind (drop at list) ≡ job_at (drop at list) ∷ jobs_behind (drop (next_job list at) list)
behind-next list at h e =
    behind-some (drop at list) (omega (arith, length-drop at list)) ∙ jobs-next (drop at list) e
    ∙ ap (λ (s : List ℕ). job_at (drop at list) ∷ jobs_behind s)
    (drop-drop (6 + le32 (drop at list) 0) at list ∙ ap (λ (n : ℕ). drop n list) (sym (next-whole list at e)))

-- a whole record's body has the bytes that it says
pub length-body : (s : List ℕ) → is_whole s ≡ true → length (job_at s).body ≡ le32 s 0
length-body s e =
    let w = whole_is s e in
    omega (arith, w.six, w.body, length-take (le32 s 0) (drop 6 s), length-drop 6 s)
