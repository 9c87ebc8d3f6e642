-- The laws of `size_answer`, and of `rest_answer`, the same behind a good header record. Assumes nothing.
--     rest-*                    the answer behind the header record, where 12 applies and where it does not
--     header-*                  the answer, where the header record is good and where it is not
--     size-done, size-refused   what an answer says
use Rattle.std.specs.Prelude.{Ok, Err}
use Prim.Native.Nat.{ℕ, suc, ◌+◌, ◌-◌, ◌≤◌}
use mathlib.Core.Path.{◌≡◌, refl, sym, ap}
use mathlib.Core.Bool.{true, false}
use mathlib.Core.List.{List, ◌∷◌}
use native.Mathlib.Omega.{arith}
use lib.ListN.{length, drop}
use Rattle.laws.proofs.Tests.{and-true}
use Rattle.def_refusals.specs.declared.Refusal.{Refusal}
use Rattle.def_refusals.specs.declared.Refusal.TheVariants.{BadRecord}
use Rattle.def_refusals.specs.Answers.{then_check, Or}
use Rattle.def_jobs.specs.declared.Layout.{Layout}
use Rattle.def_jobs.specs.Jobs.{Job, le32, is_whole, job_at, jobs_of, is_header_job, jobs_fault, asked_padding}
use Rattle.def_jobs.specs.Layout.{blocks_bytes, layout_of}
use Rattle.def_jobs.specs.Writing.{size_fault}
use Rattle.jobs.specs.Places.{next_job, jobs_behind}
use Rattle.jobs.proofs.JobsLaws.{jobs-next, fault-good, fault-first}
use Rattle.jobs.proofs.HeaderLaws.{header-padding}
use Rattle.jobs.proofs.PlaceLaws.{next-whole}
use Rattle.packet_size.specs.Sizes.{is_header_at, on_sized, size_answer, rest_answer}
use Rattle.packet_size.proofs.LayoutLaws.{length-layout}

-- the answer, where 12 applies and where it does not
module _ (layout : Layout) (start : ℕ) (js : List Job) where
  pub rest-bad : (x : Refusal) → jobs_fault 1 js ≡ Err x → Err x ≡ rest_answer layout start js
  unfolding rest_answer
  rest-bad x e = rw e

  pub rest-fine : (blocks bytes : ℕ) → jobs_fault 1 js ≡ Ok tt → blocks ≡ length js
      → bytes ≡ start + length (blocks_bytes layout js)
      → on_sized (size_fault blocks bytes) bytes ≡ rest_answer layout start js
  unfolding rest_answer
  rest-fine blocks bytes e n b = rw (e, n, b)

size-rest : (layout : Layout) (h : Job) (js : List Job) → is_header_job h ≡ true
    → rest_answer layout (8 + asked_padding h) js ≡ size_answer layout (h ∷ js)
unfolding size_answer rest_answer
size-rest layout h js e =
    let k : suc (length js) - 1 ≡ length js = omega arith in
    rw (fault-good 0 h js e, length-layout layout h js, k)

pub header-fits : (list : List ℕ) → is_header_at list ≡ true → asked_padding (job_at list) ≤ 252
header-fits list e = header-padding (job_at list) (and-true (is_whole list) (is_header_job (job_at list)) e).1

module _ (layout : Layout) (list : List ℕ) where
  pub header-good : is_header_at list ≡ true → (padding next : ℕ) → padding ≡ asked_padding (job_at list)
      → next ≡ next_job list 0
      → rest_answer layout (8 + padding) (jobs_behind (drop next list)) ≡ size_answer layout (jobs_of list)
  header-good e padding next p q =
      let w = and-true (is_whole list) (is_header_job (job_at list)) e in
      let n : next ≡ 6 + le32 list 0 = omega (arith, next-whole list 0 w.0) in
      rw (n, p, jobs-next list w.0)
      (size-rest layout (job_at list) (jobs_behind (drop (6 + le32 list 0) list)) w.1)

  pub header-bad : is_header_at list ≡ false → Err (BadRecord 0) ≡ size_answer layout (jobs_of list)
  unfolding size_answer
  header-bad e = rw (fault-first 0 list e)

-- ---- what an answer says

no : {P : Type 0} {x : Refusal} {n : ℕ} → ◌≡◌ {A = Or ℕ} (Err x) (Ok n) → P
no {x = x} {n = n} e = let z : ◌≡◌ {A = ℕ} 0 1 = cc in absurd (omega arith)

done-eq : {m n : ℕ} → ◌≡◌ {A = Or ℕ} (Ok m) (Ok n) → m ≡ n
done-eq e = cc

refused-eq : {x y : Refusal} → ◌≡◌ {A = Or ℕ} (Err x) (Err y) → x ≡ y
refused-eq e = cc

-- a size says that no record is bad, that neither limit is passed, and how many bytes the packet has
pub record Sized (layout : Layout) (js : List Job) (n : ℕ) : Type 0 where
  pub good : jobs_fault 0 js ≡ Ok tt
  pub fits : size_fault (length js - 1) (length (layout_of layout js)) ≡ Ok tt
  pub size : n ≡ length (layout_of layout js)

sized-by : (layout : Layout) (js : List Job) (n : ℕ) (a b : Or (Unit {0})) → jobs_fault 0 js ≡ a
    → size_fault (length js - 1) (length (layout_of layout js)) ≡ b
    → on_sized (then_check a b) (length (layout_of layout js)) ≡ Ok n
    → Sized layout js n
sized-by layout js n (Ok _) (Ok _) p q e = record { good = p; fits = q; size = done-eq (sym e) }
sized-by layout js n (Ok _) (Err x) p q e = no e
sized-by layout js n (Err x) b p q e = no e

pub size-done : (layout : Layout) (js : List Job) (n : ℕ) → size_answer layout js ≡ Ok n → Sized layout js n
unfolding size_answer
size-done layout js n e = sized-by layout js n (jobs_fault 0 js) _ refl refl e

-- a refusal is the first of 12 and 14 that applies
unfit-by : (c : Or (Unit {0})) (n : ℕ) (x : Refusal) → on_sized c n ≡ Err x → c ≡ Err x
unfit-by (Ok _) n x e = no (sym e)
unfit-by (Err y) n x e = ap Err (refused-eq e)

pub size-refused : (layout : Layout) (js : List Job) (x : Refusal) → size_answer layout js ≡ Err x
    → then_check (jobs_fault 0 js) (size_fault (length js - 1) (length (layout_of layout js))) ≡ Err x
unfolding size_answer
size-refused layout js x e = unfit-by _ (length (layout_of layout js)) x e
