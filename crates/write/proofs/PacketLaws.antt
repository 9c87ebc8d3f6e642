-- The packet of a list whose size is known: its header record, its blocks and its padding, in a buffer with room for
-- it. Assumes nothing.
--     Framed               the list's records are good, and this is the packet's size
--     packet-done, packet-misleads, packet-refused     what is answered before 11
--     fifteen-padded, fifteen-bare                     15 by the list's records
use Rattle.std.specs.Prelude.{Ok, Err}
use Prim.Native.Nat.{ℕ, ◌+◌, ◌-◌, ◌/◌, ◌≤◌}
use mathlib.Core.Path.{◌≡◌, sym, ap, subst, ◌∙◌}
use mathlib.Core.Bool.{cond}
use mathlib.Core.List.{List, ◌∷◌, ◌++◌}
use native.Mathlib.Omega.{arith}
use lib.ListN.{length, drop}
use lib.Dec.{eqb}
use borrow.Author.Tests.{eq-eqb, ne_eqb}
use Rattle.def_refusals.specs.declared.Refusal.{Refusal}
use Rattle.def_refusals.specs.Answers.{then_check, Or}
use Rattle.def_wire.specs.Bytes.{two, four}
use Rattle.def_jobs.specs.declared.Layout.{Layout}
use Rattle.def_jobs.specs.declared.Layout.TheVariants.{Careful}
use Rattle.def_jobs.specs.Jobs.{Job, le32, is_whole, job_at, jobs_of, is_header_job, jobs_fault, asked_padding, sender_of}
use Rattle.def_jobs.specs.Layout.{blocks_bytes, first_byte, padding_bytes, layout_of}
use Rattle.def_jobs.specs.Writing.{size_fault, mislead_fault, write_fault, packet_of}
use Rattle.laws.specs.Stores.{Wrote}
use Rattle.laws.proofs.Tests.{and-true}
use Rattle.laws.proofs.Stores.{and_then, same, filled}
use Rattle.jobs.specs.Places.{next_job, jobs_behind}
use Rattle.jobs.proofs.JobsLaws.{jobs-next, fault-good, fine-first}
use Rattle.jobs.proofs.PlaceLaws.{next-whole}
use Rattle.jobs.proofs.HeaderLaws.{header-padding}
use Rattle.packet_size.specs.Sizes.{size_answer}
use Rattle.packet_size.proofs.LayoutLaws.{length-layout}
use Rattle.packet_size.proofs.SizeLaws.{size-done, size-refused}
use Rattle.misled.specs.Misled.{misled_fault}
use Rattle.utils.proofs.BytesLaws.{Bytes}
use Rattle.written.proofs.Lists.{Each}
use Rattle.written.proofs.RecordsLaws.{Body, bodies, fit}
use Rattle.old_readers.proofs.FaultLaws.{careful-fault}

not-unfit : {P : Type 0} {x : Refusal} → ◌≡◌ {A = Or (Unit {0})} (Ok tt) (Err x) → P
not-unfit {x = x} e = absurd (let z : ◌≡◌ {A = ℕ} 0 1 = cc in omega arith)

-- the records behind the header record
abbrev pub behind : List ℕ → List Job
behind list = jobs_behind (drop (next_job list 0) list)

pub record Framed (layout : Layout) (list : List ℕ) (size : ℕ) : Type 0 where
  pub jobs : jobs_of list ≡ job_at list ∷ behind list
  pub few : asked_padding (job_at list) ≤ 252
  pub fine : jobs_fault 1 (behind list) ≡ Ok tt
  pub sized : size ≡ 8 + asked_padding (job_at list) + length (blocks_bytes layout (behind list))

pub framed : (layout : Layout) (list : List ℕ) (size : ℕ) → size_answer layout (jobs_of list) ≡ Ok size
    → Framed layout list size
framed layout list size e =
    let z = size-done layout (jobs_of list) size e in
    let p = and-true (is_whole list) (is_header_job (job_at list)) (fine-first 0 list z.good) in
    let n : 6 + le32 list 0 ≡ next_job list 0 = omega (arith, next-whole list 0 p.0) in
    let js : jobs_of list ≡ job_at list ∷ behind list =
    jobs-next list p.0 ∙ ap (λ (k : ℕ). job_at list ∷ jobs_behind (drop k list)) n in
    record {
      jobs = js;
      few = header-padding (job_at list) p.1;
      fine = sym (fault-good 0 (job_at list) (behind list) p.1) ∙ ap (jobs_fault 0) (sym js) ∙ z.good;
      sized = z.size ∙ ap (λ (l : List Job). length (layout_of layout l)) js
          ∙ length-layout layout (job_at list) (behind list);
    }

module _ (layout : Layout) (list : List ℕ) (size : ℕ) (f : Framed layout list size) where
  -- the header and the blocks have room
  module _ (out m : List ℕ) (i padding sender : ℕ) (p : padding ≡ asked_padding (job_at list))
      (w : Wrote out 0 (first_byte padding ∷ 207 ∷ two ((size - 4) / 4) ++ four sender) m i)
      (room : size ≤ length out) where
    pub blocks-room : i + length (blocks_bytes layout (behind list)) ≤ length m
    blocks-room = omega (arith, w.past, same w, f.sized)

    module _ (n : List ℕ) (j : ℕ) (v : Wrote m i (blocks_bytes layout (behind list)) n j) where
      pub padding-room : (padding ≤ 252) × (j + padding ≤ length n)
      padding-room = (omega (arith, p, f.few), omega (arith, p, w.past, same w, v.past, same v, f.sized))

      bytes : sender ≡ sender_of (job_at list)
          → (first_byte padding ∷ 207 ∷ two ((size - 4) / 4) ++ four sender)
          ++ (blocks_bytes layout (behind list) ++ padding_bytes padding)
          ≡ layout_of layout (job_at list ∷ behind list)
      unfolding layout_of
      bytes s =
          let a : size - 4 ≡ 4 + length (blocks_bytes layout (behind list)) + asked_padding (job_at list) =
          omega (arith, f.sized) in
          rw (p, s, a)

      -- header, blocks and padding are the packet
      pub laid : (o : List ℕ) (k : ℕ) → sender ≡ sender_of (job_at list) → Wrote n j (padding_bytes padding) o k
          → o ≡ layout_of layout (jobs_of list) ++ drop size out
      laid o k s u =
          let e = bytes s ∙ ap (layout_of layout) (sym f.jobs) in
          let q = subst (λ (vs : List ℕ). Wrote out 0 vs o k) e (and_then w (and_then v u)) in
          let l : length (layout_of layout (jobs_of list)) ≡ size =
          ap (λ (js : List Job). length (layout_of layout js)) f.jobs
          ∙ length-layout layout (job_at list) (behind list)
          ∙ sym f.sized in
          let r : length (layout_of layout (jobs_of list)) ≤ length out = omega (arith, l, room) in
          (filled r q).1 ∙ ap (λ (n : ℕ). layout_of layout (jobs_of list) ++ drop n out) l

-- a check that comes behind two, where one of these refuses
then-more : (a b c : Or (Unit {0})) (x : Refusal) → then_check a b ≡ Err x → then_check a (then_check b c) ≡ Err x
then-more (Ok _) (Ok _) c x e = not-unfit e
then-more (Ok _) (Err y) c x e = e
then-more (Err y) b c x e = e

-- before 11 come 12 and 14, and 15 where the layout asks for it
abbrev pub fifteen : Layout → List ℕ → Or (Unit {0})
fifteen layout list = mislead_fault layout (layout_of layout (jobs_of list)) (length (jobs_of list) - 1)

module _ (layout : Layout) (list : List ℕ) where
  module _ (size : ℕ) (e : size_answer layout (jobs_of list) ≡ Ok size) where
    pub packet-done : fifteen layout list ≡ Ok tt → packet_of layout list ≡ Ok (layout_of layout (jobs_of list))
    unfolding packet_of write_fault
    packet-done f = let z = size-done layout (jobs_of list) size e in rw (z.good, z.fits, f)

    pub packet-misleads : (x : Refusal) → fifteen layout list ≡ Err x → packet_of layout list ≡ Err x
    unfolding packet_of write_fault
    packet-misleads x f = let z = size-done layout (jobs_of list) size e in rw (z.good, z.fits, f)

  pub packet-refused : (x : Refusal) → size_answer layout (jobs_of list) ≡ Err x → packet_of layout list ≡ Err x
  unfolding packet_of write_fault
  packet-refused x e =
      rw (then-more (jobs_fault 0 (jobs_of list)) (size_fault (length (jobs_of list) - 1)
      (length (layout_of layout (jobs_of list)))) (fifteen layout list) x
      (size-refused layout (jobs_of list) x e))

-- 15 by the list's records: none with padding
module _ (list : List ℕ) (size : ℕ) (e : size_answer Careful (jobs_of list) ≡ Ok size) (b : Bytes list) where
  fifteen-is : fifteen Careful list ≡ cond (eqb (asked_padding (job_at list)) 0) (misled_fault 0 (behind list)) (Ok tt)
  fifteen-is =
      let z = size-done Careful (jobs_of list) size e in
      let j = (framed Careful list size e).jobs in
      let h = subst (Each Body) j (bodies list b) in
      let n : length (job_at list ∷ behind list) - 1 ≡ length (behind list) = omega arith in
      rw (j, n)
      (careful-fault (job_at list) (behind list) _
      (fit Careful (job_at list) (behind list) (rw j at z.good) (rw j at z.fits)) h.0 h.1)

  pub fifteen-padded : (asked_padding (job_at list) ≡ 0 → ⊥) → (Ok tt) ≡ fifteen Careful list
  fifteen-padded p = sym (fifteen-is ∙ (rw (ne_eqb _ _ p)))

  pub fifteen-bare : asked_padding (job_at list) ≡ 0 → misled_fault 0 (behind list) ≡ fifteen Careful list
  fifteen-bare p = sym (fifteen-is ∙ (rw (eq-eqb _ _ p)))

  -- the blocks of a packet without padding
  pub blocks-size : asked_padding (job_at list) ≡ 0 → (8 ≤ size) × (size - 8 ≡ length (blocks_bytes Careful (behind list)))
  blocks-size p = let f = framed Careful list size e in (omega (arith, f.sized), omega (arith, f.sized, p))
