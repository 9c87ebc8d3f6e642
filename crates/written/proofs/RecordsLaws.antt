-- The records of a job list: their bodies are bytes, and those that 12 and 14 let pass are good. Assumes nothing.
--     Body, bodies     a record's body is bytes, where the list is
--     Good, Fit        a record that asks for a block; records that 12 and 14 let pass, laid out
--     written          a packet that is written is the layout of such records
use Rattle.std.specs.Prelude.{Ok, Err}
use Prim.Native.Nat.{ℕ, zero, suc, ◌+◌, ◌-◌, ◌≤◌}
use mathlib.Core.Path.{◌≡◌, refl}
use mathlib.Core.Bool.{true}
use mathlib.Core.List.{List, [], ◌∷◌}
use native.Mathlib.Omega.{arith}
use lib.ListN.{length, drop}
use lib.Dec.{leb, ltb, lit<}
use borrow.Author.Tests.{ltb-false}
use Rattle.laws.proofs.Tests.{by-test, both}
use Rattle.def_refusals.specs.declared.Refusal.{Refusal}
use Rattle.def_refusals.specs.Answers.{on_fine, then_check, Or}
use Rattle.def_jobs.specs.declared.Layout.{Layout}
use Rattle.def_jobs.specs.Jobs.{Job, le32, is_whole, job_at, jobs_from, jobs_of, is_header_job, is_block_job}
use Rattle.def_jobs.specs.Jobs.{jobs_fault}
use Rattle.def_jobs.specs.Layout.{layout_of}
use Rattle.def_jobs.specs.Writing.{max_blocks, max_bytes, size_fault, write_fault, packet_of}
use Rattle.utils.proofs.BytesLaws.{Bytes}
use Rattle.written.proofs.Lists.{Each, under-take, under_drop}

-- ---- bodies are bytes

abbrev pub Body : Job → Type 0
Body j = Bytes j.body

body_at : (s : List ℕ) → Bytes s → Body (job_at s)
body_at s h = under-take 256 (le32 s 0) (drop 6 s) (lit< tt) (under_drop 256 6 s h)

bodies-from : (fuel : ℕ) (s : List ℕ) → Bytes s → Each Body (jobs_from fuel s)
unfolding jobs_from
bodies-from zero s h = tt
bodies-from (suc fuel) s h =
    let behind = bodies-from fuel (drop (6 + le32 s 0) s) (under_drop 256 (6 + le32 s 0) s h) in
    both (Each Body) (is_whole s)
    (λ _. (body_at s h, both (Each Body) (leb (length s) (6 + le32 s 0)) (λ _. tt) (λ _. behind)))
    (λ _. ((λ i. lit< tt), tt))

pub bodies : (list : List ℕ) → Bytes list → Each Body (jobs_of list)
bodies list h = bodies-from (suc (length list)) list h

-- ---- a written packet's records

no-fault : {P : Type 0} {x : Refusal} → ◌≡◌ {A = Or (Unit {0})} (Err x) (Ok tt) → P
no-fault {x = x} e = absurd (let z : ◌≡◌ {A = ℕ} 0 1 = cc in omega arith)

pub not-shown : {P A : Type 0} {x : Refusal} {a : A} → Err x ≡ Ok a → P
not-shown {x = x} {a = a} e = absurd (let z : ◌≡◌ {A = ℕ} 0 1 = cc in omega arith)

then-fine : (a b : Or (Unit {0})) → then_check a b ≡ Ok tt → (a ≡ Ok tt) × (b ≡ Ok tt)
then-fine (Ok _) b e = (refl, e)
then-fine (Err x) b e = no-fault e

pub on_fine_lem : {A : Type 0} (c : Or (Unit {0})) (a s : A) → on_fine c (Ok a) ≡ Ok s → (c ≡ Ok tt) × (a ≡ s)
on_fine_lem (Ok _) a s e = (refl, cc)
on_fine_lem (Err x) a s e = not-shown e

-- a record that asks for a block
abbrev pub Good : Job → Type 0
Good j = is_block_job j ≡ true

-- all behind the first do
good-blocks : (i : ℕ) (js : List Job) → jobs_fault (suc i) js ≡ Ok tt → Each Good js
unfolding jobs_fault
good-blocks i [] e = tt
good-blocks i (j ∷ js) e =
    by-test (is_block_job j) (λ g d. (g, good-blocks (suc i) js d)) (λ _ d. no-fault d) e

good-jobs : (h : Job) (js : List Job) → jobs_fault 0 (h ∷ js) ≡ Ok tt → (is_header_job h ≡ true) × Each Good js
unfolding jobs_fault
good-jobs h js = by-test (is_header_job h) (λ a d. (a, good-blocks 0 js d)) (λ _ d. no-fault d)

small_size : (n bytes : ℕ) → size_fault n bytes ≡ Ok tt → (n ≤ max_blocks) × (bytes ≤ max_bytes)
small_size n bytes =
    by-test (ltb max_blocks n) (λ _ d. no-fault d)
    (λ a. by-test (ltb max_bytes bytes) (λ _ d. no-fault d) (λ b _. (ltb-false _ _ a, ltb-false _ _ b)))

-- 14 of records in a layout
abbrev pub layout_fault : Layout → List Job → Or (Unit {0})
layout_fault layout js = size_fault (length js - 1) (length (layout_of layout js))

-- records that 12 and 14 let pass, laid out as the packet s
pub record Fit (layout : Layout) (h : Job) (js : List Job) (s : List ℕ) : Type 0 where
  pub laid : s ≡ layout_of layout (h ∷ js)
  pub header : is_header_job h ≡ true
  pub blocks : Each Good js
  pub few : length js ≤ max_blocks
  pub small : length s ≤ max_bytes

pub fit : (layout : Layout) (h : Job) (js : List Job) → jobs_fault 0 (h ∷ js) ≡ Ok tt → layout_fault layout (h ∷ js) ≡ Ok tt
    → Fit layout h js (layout_of layout (h ∷ js))
fit layout h js f g =
    let j = good-jobs h js f in
    let z = small_size (length (h ∷ js) - 1) (length (layout_of layout (h ∷ js))) g in
    record { laid = refl; header = j.0; blocks = j.1; few = omega arith; small = z.1 }

-- a packet that is written is the layout of records that 12 and 14 let pass
pub written : (layout : Layout) (list s : List ℕ) → packet_of layout list ≡ Ok s
    → (jobs_fault 0 (jobs_of list) ≡ Ok tt) × (layout_fault layout (jobs_of list) ≡ Ok tt)
    × (layout_of layout (jobs_of list) ≡ s)
unfolding packet_of write_fault
written layout list s e =
    let w = on_fine_lem (write_fault layout (jobs_of list)) (layout_of layout (jobs_of list)) s e in
    let f = then-fine (jobs_fault 0 (jobs_of list)) _ w.0 in
    let g = then-fine (layout_fault layout (jobs_of list)) _ f.1 in
    (f.0, g.0, w.1)

-- a list has a first record
pub some-record : (list : List ℕ) → jobs_of list ≡ [] → ⊥
unfolding jobs_from
some-record list =
    by-test (is_whole list) (λ _ e. no_record e) (λ _ e. no_record e)
  where
    no_record : {j : Job} {js : List Job} → j ∷ js ≡ [] → ⊥
    no_record {j} {js} e = let z : ◌≡◌ {A = ℕ} 0 1 = cc in omega arith
