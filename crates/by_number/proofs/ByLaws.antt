-- Each way in which a question by a number ends: as the question that it asks for, or refused. Assumes nothing.
use Rattle.std.specs.Prelude.{Ok, Err, Some, None}
use Prim.Native.Nat.{ℕ}
use mathlib.Core.Path.{◌≡◌, refl}
use mathlib.Core.List.{List}
use Rattle.def_cursor.specs.declared.Stretch.{Stretch}
use Rattle.def_refusals.specs.declared.Refusal.{Refusal}
use Rattle.def_refusals.specs.Answers.{Or, on_shown}
use Rattle.def_wire.specs.declared.Reading.{Reading}
use Rattle.def_wire.specs.declared.Reading.TheVariants.{Standard}
use Rattle.def_wire.specs.declared.Rle.{Rle}
use Rattle.def_wire.specs.declared.Ranged.{Ranged}
use Rattle.def_wire.specs.Packet.{locate, part, view_of}
use Rattle.def_wire.specs.Block.{rle_of, ranged_of}
use Rattle.def_questions.specs.Questions.{numbers_shown}
use Rattle.def_questions.specs.Packets.{numbers_asked, words_asked, fields_asked, on_view_fields}
use Rattle.def_questions.specs.ByNumber.{numbers_by, numbers_view_by, words_by, fields_by, not_served}
use Rattle.def_cursor.specs.declared.Cursor.{Cursor}
use Rattle.def_cursor.specs.Cursor.{StretchedIn, StretchedBy, on_view_advanced, on_view_filled}
use Rattle.by_number.specs.Other.{other_of}

-- a question that is refused for every view is refused as the view is, or with 10
none-served : {A : Type 0} (v : Or (List ℕ)) → on_shown {B = A} v (λ w. Err (not_served w)) ≡ Err (other_of v)
none-served (Ok v) = refl
none-served (Err x) = refl

module _ (r : Reading) (s : List ℕ) (k t : ℕ) where
  module _ (a : Rle) (e : rle_of t ≡ Some a) where
    pub numbers-served : numbers_asked r s k a ≡ numbers_by r s k t
    unfolding numbers_by numbers_asked
    numbers-served = rw e

    pub view-served : (v : List ℕ) → numbers_shown r a v ≡ numbers_view_by r t v
    view-served v = rw e

    pub words-served : words_asked r s k a ≡ words_by r s k t
    unfolding words_by words_asked
    words-served = rw e

  module _ (e : rle_of t ≡ None) where
    pub numbers-other : numbers_by r s k t ≡ Err (other_of (view_of r s k))
    unfolding numbers_by
    numbers-other = rw e (none-served (view_of r s k))

    pub view-other : (v : List ℕ) → numbers_view_by r t v ≡ Err (not_served v)
    view-other v = rw e

    pub words-other : words_by r s k t ≡ Err (other_of (view_of r s k))
    unfolding words_by
    words-other = rw e (none-served (view_of r s k))

  -- of the view where there is one; what the header or the walk refuses is refused, whatever is asked
  pub numbers-viewed : (at n : ℕ) → locate r s k ≡ Ok (at, n) → numbers_view_by r t (part s at n) ≡ numbers_by r s k t
  unfolding numbers_by
  numbers-viewed at n e = rw e

  pub numbers-refused : (x : Refusal) → locate r s k ≡ Err x → numbers_by r s k t ≡ Err x
  unfolding numbers_by
  numbers-refused x e = rw e

  pub fields-served : (g : Ranged) → ranged_of t ≡ Some g → fields_asked r s k g ≡ fields_by r s k t
  unfolding fields_by fields_asked
  fields-served g e = rw e

  no_fields : (v : Or (List ℕ)) → Err (other_of v) ≡ on_view_fields v (λ w. Err (not_served w))
  no_fields (Ok v) = refl
  no_fields (Err x) = refl

  pub fields-other : ranged_of t ≡ None → Err (other_of (view_of r s k)) ≡ fields_by r s k t
  unfolding fields_by
  fields-other e = rw e (no_fields (view_of r s k))

stuck : (v : Or (List ℕ)) → Err (other_of v) ≡ on_view_advanced v (λ w. Err (not_served w))
stuck (Ok v) = refl
stuck (Err x) = refl

kept : (v : Or (List ℕ)) (out : List ℕ) → out ≡ on_view_filled v (λ w. out) out
kept (Ok v) out = refl
kept (Err x) out = refl

module _ (s : List ℕ) (k t : ℕ) (c : Cursor) (budget : ℕ) (out : List ℕ) where
  pub advance-served : (a : Rle) (r : Or Stretch) (out' : List ℕ) → rle_of t ≡ Some a
      → StretchedIn s k a c budget out r out'
      → StretchedBy s k t c budget out r out'
  advance-served a r out' e p = record { answer = rw e p.answer; filled = rw e p.filled }

  pub advance-other : rle_of t ≡ None → StretchedBy s k t c budget out (Err (other_of (view_of Standard s k))) out
  advance-other e = record {
    answer = rw e (stuck (view_of Standard s k));
    filled = rw e
        (kept (view_of Standard s k) out);
  }
