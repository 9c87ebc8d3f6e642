-- What a block shows in a reading is what each question about it is answered. Assumes nothing.
--     shown-answered     of all that it shows
--     by_kind            of a block of a kind
use Rattle.std.specs.Prelude.{Option, Ok, Err, Some, None}
use Prim.Native.Nat.{ℕ}
use mathlib.Core.Path.{◌≡◌, refl, subst}
use mathlib.Core.List.{List}
use Rattle.def_wire.specs.declared.Summary.{Summary}
use Rattle.def_wire.specs.declared.LongTime.{LongTime}
use Rattle.def_wire.specs.declared.Fields.{Fields}
use Rattle.def_refusals.specs.Answers.{Or, on_shown}
use Rattle.def_wire.specs.declared.Reading.{Reading}
use Rattle.def_wire.specs.declared.Rle.{Rle}
use Rattle.def_wire.specs.declared.Ranged.TheVariants.{Chunks, Times}
use Rattle.def_wire.specs.declared.Kind.{Kind}
use Rattle.def_wire.specs.declared.Kind.TheVariants.{Spans, Clock, Echoes, Statistics}
use Rattle.def_wire.specs.Packet.{view_of}
use Rattle.def_wire.specs.Block.{type_of, kind_in, fields_of, time_of}
use Rattle.def_wire.specs.Summary.{summary_of}
use Rattle.def_standard.specs.declared.Receipt.{Receipt}
use Rattle.def_standard.specs.declared.Echo.{Echo}
use Rattle.def_questions.specs.Questions.{numbers_shown, pairs_shown, entries_shown}
use Rattle.def_questions.specs.Packets.{fields_asked, numbers_asked, pairs_asked, entries_asked, time_asked, summary_asked}
use Rattle.def_jobs.specs.Shown.{Record, reported, received, clocked, echoed, summed, bare, on_fields, on_time}
use Rattle.def_jobs.specs.Shown.{on_summary, record_as, record_of}
use Rattle.written.proofs.RecordsLaws.{not-shown}
use Rattle.claims.specs.RoundTrip.{Answered}

-- ---- what a block shows is what each question about it is answered

module _ (g : Reading) (s : List ℕ) (k : ℕ) (v : List ℕ) (e : view_of g s k ≡ Ok v) (r : Record) where
  reported-by : (a : Rle) (x : Or Fields) (y : Or (List ℕ)) → fields_of g (Chunks a) v ≡ x
      → numbers_shown g a v ≡ y → on_fields x (λ f. on_shown y (λ l. Ok (reported a f l))) ≡ Ok r
      → Answered g s k r
  unfolding fields_asked numbers_asked
  reported-by a (Ok f) (Ok l) p q d =
      let i : reported a f l ≡ r = cc in subst (Answered g s k) i (rw e p, rw e q)
  reported-by a (Ok f) (Err z) p q d = not-shown d
  reported-by a (Err z) y p q d = not-shown d

  received-by : (x : Or Fields) (y : Or (List Receipt)) → fields_of g Times v ≡ x
      → pairs_shown g v ≡ y → on_fields x (λ f. on_shown y (λ l. Ok (received f l))) ≡ Ok r
      → Answered g s k r
  unfolding fields_asked pairs_asked
  received-by (Ok f) (Ok l) p q d =
      let i : received f l ≡ r = cc in subst (Answered g s k) i (rw e p, rw e q)
  received-by (Ok f) (Err z) p q d = not-shown d
  received-by (Err z) y p q d = not-shown d

  clocked-by : (x : Or LongTime) → time_of g v ≡ x → on_time x (λ t. Ok (clocked t)) ≡ Ok r → Answered g s k r
  unfolding time_asked
  clocked-by (Ok t) p d = let i : clocked t ≡ r = cc in subst (Answered g s k) i (rw e p)
  clocked-by (Err z) p d = not-shown d

  echoed-by : (x : Or (List Echo)) → entries_shown g v ≡ x → on_shown x (λ l. Ok (echoed l)) ≡ Ok r
      → Answered g s k r
  unfolding entries_asked
  echoed-by (Ok l) p d = let i : echoed l ≡ r = cc in subst (Answered g s k) i (rw e p)
  echoed-by (Err z) p d = not-shown d

  summed_by : (x : Or Summary) → summary_of g v ≡ x → on_summary x (λ y. Ok (summed y)) ≡ Ok r → Answered g s k r
  unfolding summary_asked
  summed_by (Ok y) p d = let i : summed y ≡ r = cc in subst (Answered g s k) i (rw e p)
  summed_by (Err z) p d = not-shown d

  pub by_kind : (t : Kind) → record_as (Some t) g v ≡ Ok r → Answered g s k r
  by_kind (Spans (Chunks a)) d = reported-by a (fields_of g (Chunks a) v) (numbers_shown g a v) refl refl d
  by_kind (Spans Times) d = received-by (fields_of g Times v) (pairs_shown g v) refl refl d
  by_kind Clock d = clocked-by (time_of g v) refl d
  by_kind Echoes d = echoed-by (entries_shown g v) refl d
  by_kind Statistics d = summed_by (summary_of g v) refl d

  by-kind-or : (t : Option Kind) → (r ≡ bare → ⊥) → record_as t g v ≡ Ok r → Answered g s k r
  by-kind-or (Some t) b d = by_kind t d
  by-kind-or None b d = absurd (b (let i : r ≡ bare = cc in i))

pub shown-answered : (g : Reading) (s : List ℕ) (k : ℕ) (r : Record) (w : Or (List ℕ)) → view_of g s k ≡ w
    → (r ≡ bare → ⊥) → on_shown w (record_of g) ≡ Ok r → Answered g s k r
unfolding record_of
shown-answered g s k r (Ok v) e b d = by-kind-or g s k v e r (kind_in g (type_of v)) b d
shown-answered g s k r (Err z) e b d = not-shown d
