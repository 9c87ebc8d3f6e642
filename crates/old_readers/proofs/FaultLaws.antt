-- 15 of a carefully laid out packet, by its records. Assumes nothing.
--     misleads-at       without padding, block k misleads where its record does with the bytes behind its block
--     careful-fault     15 is what the records say; with padding it never applies
use Rattle.std.specs.Prelude.{Ok, Err}
use Prim.Native.Nat.{ℕ, zero, suc, ◌+◌, ◌≤◌, ◌<◌}
use mathlib.Core.Path.{◌≡◌, refl, ap}
use mathlib.Core.Bool.{cond}
use mathlib.Core.List.{List, ◌++◌}
use native.Mathlib.Omega.{arith}
use lib.ListN.{length, get_or, drop, length-drop}
use lib.Seq.{drop-cons, drop-length}
use lib.Dec.{eqb}
use borrow.Author.Tests.{eqb-true, eqb-false}
use Rattle.def_refusals.specs.Answers.{Or}
use Rattle.laws.proofs.Tests.{both}
use Rattle.def_refusals.specs.declared.Refusal.{Refusal}
use Rattle.def_wire.specs.declared.Reading.TheVariants.{Crate}
use Rattle.def_wire.specs.Packet.{place_of, count_of, locate}
use Rattle.def_jobs.specs.declared.Layout.TheVariants.{Careful}
use Rattle.def_jobs.specs.Jobs.{Job, cut_job, asked_padding}
use Rattle.def_jobs.specs.Layout.{block_bytes, blocks_bytes}
use Rattle.def_jobs.specs.Writing.{max_bytes, misleads, misleading_from, mislead_fault}
use Rattle.misled.specs.Misled.{misled_by, misled_fault}
use Rattle.written.proofs.Lists.{Each, each_at}
use Rattle.written.proofs.RecordsLaws.{Body, Good, Fit}
use Rattle.written.proofs.Shows.{view-at}
use Rattle.old_readers.proofs.BlockLaws.{block-misleads}
use Rattle.old_readers.proofs.PacketLaws.{crate-stands, crate-view}
use Rattle.old_readers.proofs.PaddedLaws.{crate-padded}

-- a refused packet misleads nobody
pub refused-nobody : (s : List ℕ) (x : Refusal) → count_of Crate s ≡ Err x → (n k : ℕ) → misleading_from s k n ≡ Ok tt
unfolding misleading_from locate
refused-nobody s x e zero k = refl
refused-nobody s x e (suc n) k = rw e (refused-nobody s x e n (suc k))

module _ (h : Job) (js : List Job) (s : List ℕ) (w : Fit Careful h js s) (bh : Body h)
    (b : Each Body js) where
  module _ (z : asked_padding h ≡ 0) where
    pub misleads-at : (k : ℕ) → k < length js
        → misleads s k ≡ misled_by (get_or js k cut_job) (length (blocks_bytes Careful (drop (suc k) js)))
    misleads-at k l =
        let some : 0 < length js = omega arith in
        let j = get_or js k cut_job in
        let rest = blocks_bytes Careful (drop (suc k) js) in
        let e = crate-stands h js s w bh b z some k l in
        let small : length (block_bytes Careful j ++ rest) ≤ max_bytes = omega (
          arith,
          ap length e,
          length-drop (place_of s k) s,
          w.small,
        ) in
        rw (crate-view h js s w bh b z some k l, view-at Careful h js s w bh b k l)
        (block-misleads j (each_at Good cut_job js k w.blocks l) (each_at Body cut_job js k b l) rest small)

    misleading-at : (n k : ℕ) → k + n ≡ length js → misleading_from s k n ≡ misled_fault k (drop k js)
    unfolding misleading_from misled_fault
    misleading-at zero k e =
        let l : k ≡ length js = omega arith in rw (l, drop-length js)
    misleading-at (suc n) k e =
        let l : k < length js = omega arith in
        rw (drop-cons js k cut_job l, misleads-at k l, misleading-at n (suc k) (omega arith))

  pub careful-fault : mislead_fault Careful s (length js) ≡ cond (eqb (asked_padding h) 0) (misled_fault 0 js) (Ok tt)
  careful-fault =
      both (λ (x : Or (Unit {0})). mislead_fault Careful s (length js) ≡ x) (eqb (asked_padding h) 0)
      (λ t. misleading-at (eqb-true _ _ t) (length js) 0 (omega arith))
      (λ f. let p : asked_padding h ≡ 0 → ⊥ = eqb-false _ _ f in
      refused-nobody s _ (crate-padded Careful h js s w bh b (omega (arith, p))) (length js) 0)
