-- A block that misleads nobody is one of which each question that the crate reading answers is answered as the standard
-- answers it. Assumes nothing.
--     Both            block k of a packet in both readings: the crate's view goes on behind the standard's
--     as-standard     where it does not mislead, the crate answers as the standard
--     as-shown        and shows what the standard shows, or type and length only of a summary
--     no-misleading   the other way round: where it answers as the standard, it does not mislead
use Rattle.std.specs.Prelude.{Option, Ok, Err, Some, None}
use Prim.Native.Nat.{ℕ, ◌≤◌}
use mathlib.Core.Path.{◌≡◌, refl, sym, ap, ap₂, ◌∙◌}
use mathlib.Core.Bool.{Bool, true, false, not}
use mathlib.Core.List.{List}
use mathlib.Core.Logic.{inl, inr}
use native.Mathlib.Omega.{arith}
use lib.ListN.{length}
use lib.Dec.{eqb, leb}
use borrow.Author.Tests.{leb-true, le-ltb}
use Rattle.def_wire.specs.declared.Kind.{Kind}
use Rattle.laws.proofs.Tests.{by-test, either, true≢false}
use Rattle.def_refusals.specs.Answers.{Or, on_shown}
use Rattle.def_wire.specs.declared.Reading.TheVariants.{Standard, Crate}
use Rattle.def_wire.specs.declared.Ranged.{Ranged}
use Rattle.def_wire.specs.declared.Ranged.TheVariants.{Chunks, Times}
use Rattle.def_wire.specs.declared.Kind.TheVariants.{Spans, Clock, Echoes, Statistics}
use Rattle.def_wire.specs.declared.Fields.{Fields}
use Rattle.def_wire.specs.declared.LongTime.{LongTime}
use Rattle.def_wire.specs.declared.Summary.{Summary}
use Rattle.def_wire.specs.Packet.{view_of}
use Rattle.def_wire.specs.Block.{type_of, kind_type, kind_of, known_to, standard_rule}
use Rattle.def_wire.specs.Block.{check_of, is_cut, rule}
use Rattle.def_wire.specs.Block.{fields_of}
use Rattle.def_wire.specs.Summary.{summary_of}
use Rattle.def_standard.specs.declared.Receipt.{Receipt}
use Rattle.def_standard.specs.declared.Echo.{Echo}
use Rattle.def_questions.specs.Questions.{pairs_shown}
use Rattle.def_questions.specs.Packets.{fields_asked, numbers_asked, pairs_asked, entries_asked, time_asked, summary_asked}
use Rattle.def_jobs.specs.Shown.{Record, reported, received, clocked, echoed, summed, bare, record_as, record_of}
use Rattle.def_jobs.specs.Shown.{same_record, on_fields, on_summary, numbers_row}
use Rattle.def_jobs.specs.Writing.{is_bare, differs, misleads}
use Rattle.utils.proofs.ClearLaws.{fit-times}
use Rattle.written.proofs.RecordsLaws.{not-shown}
use Rattle.old_readers.proofs.Same.{same_self, same-record}
use Rattle.claims.specs.RoundTrip.{Answered}
use Rattle.claims.specs.Careful.{AsStandard, BareSummary, AsShown}
use Rattle.claims.proofs.Answered.{shown-answered, by_kind}
use Rattle.claims.proofs.FitLaws.{kind-type, no-fault, no-summary, type-fine, chunks-record, times-record}
use Rattle.claims.proofs.FitLaws.{clock-record, echoes-record, sums-record, numbers-fine, pairs-fine}
use Rattle.claims.proofs.FitLaws.{entries-fine, time-fine, summary-fine, fields-fine}

not-false : (b : Bool) → not b ≡ false → b ≡ true
not-false true e = refl
not-false false e = true≢false (sym e)

-- ---- both readings of a block

pub record Both (s : List ℕ) (k : ℕ) : Type 0 where
  pub view : List ℕ
  pub own : List ℕ
  pub asked : Record
  pub crate : view_of Crate s k ≡ Ok view
  pub standard : view_of Standard s k ≡ Ok own
  pub type : type_of view ≡ type_of own
  pub longer : length own ≤ length view
  pub shows : record_of Standard own ≡ Ok asked
  pub some : asked ≡ bare → ⊥

module _ (s : List ℕ) (k : ℕ) (b : Both s k) where
  abbrev v : List ℕ
  v = b.view

  -- a type 3 block of its own 12 bytes is not cut
  own-times : check_of Standard (Spans Times) b.own ≡ Ok tt → 12 ≤ length b.own
  unfolding check_of standard_rule
  own-times c =
      by-test (eqb (type_of b.own) (kind_type (Spans Times)))
      (λ _ e. by-rule (leb 12 (length b.own)) refl (sym (fit-times b.own) ∙ e)) (λ _ e. no-fault e) c
    where
      by-rule : (t : Bool) → leb 12 (length b.own) ≡ t → rule t 12 (length b.own) ≡ Ok tt → 12 ≤ length b.own
      by-rule true u e = leb-true _ _ u
      by-rule false u e = no-fault e

  shown-times : (x : Or Fields) → fields_of Standard Times b.own ≡ x
      → on_fields x (λ f. on_shown (pairs_shown Standard b.own) (λ l. Ok (received f l))) ≡ Ok b.asked
      → 12 ≤ length b.own
  shown-times (Ok f) p e = own-times (fields-fine Standard b.own Times f p).0
  shown-times (Err z) p e = not-shown e

  whole-times : check_of Crate (Spans Times) v ≡ Ok tt → is_cut Crate Times (length v) ≡ false
  unfolding record_of
  whole-times c =
      let t : type_of b.own ≡ kind_type (Spans Times) = sym b.type ∙ type-fine Crate v (Spans Times) c in
      let e : record_as (Some (Spans Times)) Standard b.own ≡ Ok b.asked =
      rw (t, kind-type (Spans Times)) at b.shows in
      le-ltb (length v) 12 (omega (arith, shown-times (fields_of Standard Times b.own) refl e, b.longer))

  module _ (m : misleads s k ≡ false) where
    -- what the crate shows, where it is more than type and length, is what is asked
    is-asked : (c : Record) → is_bare c ≡ false → record_of Crate v ≡ Ok c → c ≡ b.asked
    is-asked c n e =
        let d : not (same_record c b.asked) ≡ false = rw (b.crate, b.standard, e, b.shows, n) at m in
        same-record c b.asked (not-false (same_record c b.asked) d)

    same : (c : Record) → is_bare c ≡ false → record_of Crate v ≡ Ok c → Answered Standard s k c
    same c n e =
        rw (is-asked c n e)
        (shown-answered Standard s k b.asked (Ok b.own) b.standard b.some b.shows)

    fields-same : (g : Ranged) (f : Fields) → fields_of Crate g v ≡ Ok f → fields_asked Standard s k g ≡ Ok f
    fields-same (Chunks a) f e =
        let p = fields-fine Crate v (Chunks a) f e in
        rw p.2 at (same _ refl (chunks-record Crate v a p.0)).0
    fields-same Times f e =
        let p = fields-fine Crate v Times f e in
        rw p.2 at (same _ refl (times-record Crate v p.1 p.0)).0

    pub as-standard : AsStandard s k
    unfolding fields_asked numbers_asked pairs_asked time_asked entries_asked summary_asked
    as-standard =
        record {
          fields = λ g f e. fields-same g f (rw b.crate at e);
          numbers = λ a l e. let p = numbers-fine Crate v a l (rw b.crate at e) in
              rw p.1 at (same _ refl (chunks-record Crate v a p.0)).1;
          pairs = λ l e. let p = pairs-fine Crate v l (rw b.crate at e) in
              rw p.1 at (same _ refl (times-record Crate v (whole-times p.0) p.0)).1;
          time = λ t e. let p = time-fine Crate v t (rw b.crate at e) in
              rw p.1 at (same _ refl (clock-record Crate v p.0));
          entries = λ l e. let p = entries-fine Crate v l (rw b.crate at e) in
              rw p.1 at (same _ refl (echoes-record Crate v p.0));
          summary = λ x e. no-summary v (summary-fine Crate v x (rw b.crate at e)).0;
        }

    -- type and length only: a summary, since the standard shows something
    asked-summary : (x : Or Summary) → on_summary x (λ y. Ok (summed y)) ≡ Ok b.asked → BareSummary s k bare
    asked-summary (Ok y) e =
        let i : b.asked ≡ summed y = cc in
        record { here = refl; summary = y; there = rw b.standard (b.shows ∙ ap Ok i) }
    asked-summary (Err z) e = not-shown e

    bare-known : (t : Option Kind) → kind_of (type_of v) ≡ t → record_as (known_to Crate t) Crate v ≡ Ok bare
        → BareSummary s k bare
    unfolding record_of
    bare-known (Some (Spans g)) i e = absurd (by_kind Crate s k v b.crate bare (Spans g) e)
    bare-known (Some Clock) i e = absurd (by_kind Crate s k v b.crate bare Clock e)
    bare-known (Some Echoes) i e = absurd (by_kind Crate s k v b.crate bare Echoes e)
    bare-known (Some Statistics) i e =
        let o : kind_of (type_of b.own) ≡ Some Statistics = rw b.type at i in
        asked-summary (summary_of Standard b.own) (rw o at b.shows)
    bare-known None i e =
        let o : kind_of (type_of b.own) ≡ None = rw b.type at i in
        let c : Ok bare ≡ Ok b.asked = rw o at b.shows in
        absurd (b.some (let z : b.asked ≡ bare = cc in z))

    bare-summary : (c : Record) → is_bare c ≡ true → record_of Crate v ≡ Ok c → BareSummary s k c
    unfolding record_of
    bare-summary bare n e = bare-known (kind_of (type_of v)) refl e
    bare-summary (reported a f l) n e = true≢false n
    bare-summary (received f l) n e = true≢false n
    bare-summary (clocked t) n e = true≢false n
    bare-summary (echoed l) n e = true≢false n
    bare-summary (summed x) n e = true≢false n

    pub as-shown : AsShown s k
    as-shown x e =
        let d : record_of Crate v ≡ Ok x = rw b.crate at e in
        either (is_bare x) (λ t. inr (bare-summary x t d))
        (λ f. inl (rw b.standard (b.shows ∙ ap Ok (sym (is-asked x f d)))))

  -- the other way round
  module _ (h : AsStandard s k) where
    answered : (c : Record) → Answered Crate s k c → Answered Standard s k c
    answered (reported a f l) e = (h.fields (Chunks a) f e.0, h.numbers a l e.1)
    answered (received f l) e = (h.fields Times f e.0, h.pairs l e.1)
    answered (clocked t) e = h.time t e
    answered (echoed l) e = h.entries l e
    answered (summed x) e = h.summary x e
    answered bare e = e

    -- what the standard answers is all that the block shows
    shown-own : (c : Record) → Answered Standard s k c → record_of Standard b.own ≡ Ok c
    unfolding fields_asked numbers_asked pairs_asked time_asked entries_asked summary_asked
    shown-own (reported a f l) e =
        let p = fields-fine Standard b.own (Chunks a) f (rw b.standard at e.0) in
        let q = numbers-fine Standard b.own a l (rw b.standard at e.1) in
        chunks-record Standard b.own a p.0
        ∙ ap₂ (λ (x : Fields) (y : List ℕ). Ok (reported a x y)) p.2 q.1
    shown-own (received f l) e =
        let p = fields-fine Standard b.own Times f (rw b.standard at e.0) in
        let q = pairs-fine Standard b.own l (rw b.standard at e.1) in
        times-record Standard b.own p.1 p.0
        ∙ ap₂ (λ (x : Fields) (y : List Receipt). Ok (received x y)) p.2 q.1
    shown-own (clocked t) e =
        let p = time-fine Standard b.own t (rw b.standard at e) in
        clock-record Standard b.own p.0 ∙ ap (λ (x : LongTime). Ok (clocked x)) p.1
    shown-own (echoed l) e =
        let p = entries-fine Standard b.own l (rw b.standard at e) in
        echoes-record Standard b.own p.0 ∙ ap (λ (x : List Echo). Ok (echoed x)) p.1
    shown-own (summed x) e =
        let p = summary-fine Standard b.own x (rw b.standard at e) in
        sums-record Standard b.own p.0 ∙ ap (λ (y : Summary). Ok (summed y)) p.1
    shown-own bare e = absurd e

    pub no-misleading : misleads s k ≡ false
    no-misleading = rw (b.crate, b.standard) (by-shown (record_of Crate v) refl)
      where
        by-shown : (x : Or Record) → record_of Crate v ≡ x → differs x (record_of Standard b.own) ≡ false
        by-shown (Err z) e = refl
        by-shown (Ok c) e =
            either (is_bare c) (λ t. rw t)
            (λ f.
            let a = shown-answered Crate s k c (Ok v) b.crate (λ i. true≢false (sym f ∙ ap is_bare i)) e in
            rw (f, shown-own c (answered c a), same_self (numbers_row c)))
