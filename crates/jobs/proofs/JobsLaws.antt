-- The laws of a job list's records. Assumes nothing.
--     jobs-enough             fuel does not matter once there is enough
--     jobs-cut, jobs-next     the records of a list, where the first one is cut and where it is whole
--     behind-none, ..         the records behind another one
--     fault-*                 12, where the first record is bad and where it is good
--     fine-*                  what it says that 12 does not apply
use Rattle.std.specs.Prelude.{Ok, Err}
use Prim.Native.Nat.{ℕ, zero, suc, ◌+◌, ◌-◌, ◌≤◌, ◌<◌}
use mathlib.Core.Path.{◌≡◌, refl, sym, ap, ◌∙◌}
use mathlib.Core.Bool.{true, false, ◌&&◌}
use mathlib.Core.List.{List, [], ◌∷◌}
use native.Mathlib.Omega.{arith}
use lib.ListN.{length, drop, length-drop}
use lib.Dec.{leb, lit<}
use borrow.Author.Tests.{le-leb, lt-leb, leb-true, leb-false}
use Rattle.def_refusals.specs.Answers.{Or}
use Rattle.laws.proofs.Tests.{either, and-true}
use Rattle.def_refusals.specs.declared.Refusal.{Refusal}
use Rattle.def_refusals.specs.declared.Refusal.TheVariants.{BadRecord}
use Rattle.def_jobs.specs.Jobs.{Job, le32, is_whole, job_at, cut_job, jobs_from, jobs_of, is_header_job, is_block_job, is_good}
use Rattle.def_jobs.specs.Jobs.{jobs_fault}
use Rattle.jobs.specs.Places.{jobs_behind}
use Rattle.jobs.proofs.KindLaws.{kind_of-none}

-- a whole record has its six bytes and its body
pub record Whole (s : List ℕ) : Type 0 where
  pub six : 6 ≤ length s
  pub body : 6 + le32 s 0 ≤ length s

pub whole_is : (s : List ℕ) → is_whole s ≡ true → Whole s
whole_is s e =
    let p = and-true (leb 6 (length s)) (leb (le32 s 0) (length s - 6)) e in
    let a : 6 ≤ length s = leb-true _ _ p.0 in
    let b : le32 s 0 ≤ length s - 6 = leb-true _ _ p.1 in
    record { six = a; body = omega arith }

-- one record of the list, with fuel
pub from_cut : (f : ℕ) (s : List ℕ) → is_whole s ≡ false → jobs_from (suc f) s ≡ cut_job ∷ []
unfolding jobs_from
from_cut f s e = rw e

pub from_last : (f : ℕ) (s : List ℕ) → is_whole s ≡ true → length s ≤ 6 + le32 s 0 → jobs_from (suc f) s ≡ job_at s ∷ []
unfolding jobs_from
from_last f s e h = rw (e, le-leb _ _ h)

pub from_more : (f : ℕ) (s : List ℕ) → is_whole s ≡ true → 6 + le32 s 0 < length s
    → jobs_from (suc f) s ≡ job_at s ∷ jobs_from f (drop (6 + le32 s 0) s)
unfolding jobs_from
from_more f s e h = rw (e, lt-leb _ _ h)

pub jobs-enough : (f g : ℕ) (s : List ℕ) → length s < f → length s < g → jobs_from f s ≡ jobs_from g s
jobs-enough zero g s h k = absurd (omega arith)
jobs-enough (suc f) zero s h k = absurd (omega arith)
jobs-enough (suc f) (suc g) s h k =
    either (is_whole s)
    (λ w. either (leb (length s) (6 + le32 s 0))
    (λ t. let e : length s ≤ 6 + le32 s 0 = leb-true _ _ t in from_last f s w e ∙ sym (from_last g s w e))
    (λ t. let e : 6 + le32 s 0 < length s = leb-false _ _ t in
    from_more f s w e
    ∙ ap (λ (js : List Job). job_at s ∷ js)
    (jobs-enough f g (drop (6 + le32 s 0) s) (omega (arith, length-drop (6 + le32 s 0) s))
    (omega (arith, length-drop (6 + le32 s 0) s)))
    ∙ sym (from_more g s w e)))
    (λ w. from_cut f s w ∙ sym (from_cut g s w))

-- behind a record there is another one, or nothing
pub behind-none : (s : List ℕ) → length s ≤ 0 → jobs_behind s ≡ []
unfolding jobs_behind
behind-none s h = rw (le-leb _ _ h)

pub behind-some : (s : List ℕ) → 0 < length s → jobs_behind s ≡ jobs_of s
unfolding jobs_behind
behind-some s h = rw (lt-leb _ _ h)

-- the records of a list: a cut one; or a whole one and those behind it
pub jobs-cut : (s : List ℕ) → is_whole s ≡ false → jobs_of s ≡ cut_job ∷ []
jobs-cut s e = from_cut (length s) s e

pub jobs-next : (s : List ℕ) → is_whole s ≡ true → jobs_of s ≡ job_at s ∷ jobs_behind (drop (6 + le32 s 0) s)
jobs-next s w =
    let rest = drop (6 + le32 s 0) s in
    let d : length rest ≡ length s - (6 + le32 s 0) = length-drop (6 + le32 s 0) s in
    either (leb (length s) (6 + le32 s 0))
    (λ t. let h : length s ≤ 6 + le32 s 0 = leb-true _ _ t in
    from_last (length s) s w h ∙ ap (λ (js : List Job). job_at s ∷ js) (sym (behind-none rest (omega arith))))
    (λ t. let h : 6 + le32 s 0 < length s = leb-false _ _ t in
    from_more (length s) s w h
    ∙ ap (λ (js : List Job). job_at s ∷ js)
    (jobs-enough (length s) (suc (length rest)) rest (omega arith) (omega arith)
    ∙ sym (behind-some rest (omega arith))))

-- ---- 12

-- the first of some records is good, or it is not
pub fault-good : (i : ℕ) (j : Job) (js : List Job) → is_good i j ≡ true → jobs_fault i (j ∷ js) ≡ jobs_fault (suc i) js
unfolding jobs_fault
fault-good i j js e = rw e

pub fault-bad : (i : ℕ) (j : Job) (js : List Job) → is_good i j ≡ false → jobs_fault i (j ∷ js) ≡ Err (BadRecord i)
unfolding jobs_fault
fault-bad i j js e = rw e

pub fault-none : (i : ℕ) → jobs_fault i [] ≡ Ok tt
unfolding jobs_fault
fault-none i = refl

-- a cut record is bad anywhere
pub cut-bad : (i : ℕ) → is_good i cut_job ≡ false
unfolding is_header_job is_block_job
cut-bad zero = refl
cut-bad (suc i) = rw (kind_of-none 65536 (lit< tt))

-- so the list is bad where its first record is not whole and good
pub fault-first : (i : ℕ) (s : List ℕ) → (is_whole s && is_good i (job_at s)) ≡ false
    → jobs_fault i (jobs_of s) ≡ Err (BadRecord i)
fault-first i s e =
    either (is_whole s)
    (λ w. rw (jobs-next s w) (fault-bad i (job_at s) _ (rw w at e)))
    (λ w. rw (jobs-cut s w) (fault-bad i cut_job [] (cut-bad i)))

-- where 12 does not apply, the first record is whole and good, and so are those behind it
not-fine : {P : Type 0} {x : Refusal} → ◌≡◌ {A = Or (Unit {0})} (Err x) (Ok tt) → P
not-fine {x = x} e = let z : ◌≡◌ {A = ℕ} 0 1 = cc in absurd (omega arith)

pub fine-first : (i : ℕ) (s : List ℕ) → jobs_fault i (jobs_of s) ≡ Ok tt → (is_whole s && is_good i (job_at s)) ≡ true
fine-first i s e =
    either (is_whole s && is_good i (job_at s)) (λ t. t) (λ t. not-fine (sym (fault-first i s t) ∙ e))
