-- Each way in which a question of a view by a number ends: as the question that it asks for, or refused as 10. Assumes
-- nothing.
use Rattle.std.specs.Prelude.{Err, Some, None}
use Prim.Native.Nat.{ℕ}
use mathlib.Core.Path.{◌≡◌}
use mathlib.Core.List.{List}
use Rattle.def_wire.specs.declared.Fields.{Fields}
use Rattle.def_refusals.specs.Answers.{Or}
use Rattle.def_wire.specs.declared.Reading.{Reading}
use Rattle.def_wire.specs.declared.Rle.{Rle}
use Rattle.def_wire.specs.declared.Ranged.{Ranged}
use Rattle.def_wire.specs.Block.{rle_of, ranged_of, fields_of}
use Rattle.def_questions.specs.Questions.{words_shown}
use Rattle.def_questions.specs.ByNumber.{on_rle, on_ranged, not_served}
use Rattle.def_cursor.specs.declared.Cursor.{Cursor}
use Rattle.def_cursor.specs.Cursor.{advance_of, stretch_filled, advance_by, filled_by}

-- the answers to a number, as the contracts have them
abbrev pub fields_view_by : Reading → ℕ → List ℕ → Or Fields
fields_view_by r t v = on_ranged (ranged_of t) (λ g. fields_of r g v) (Err (not_served v))

abbrev pub words_view_by : Reading → ℕ → List ℕ → Or (List ℕ)
words_view_by r t v = on_rle (rle_of t) (λ a. words_shown r a v) (Err (not_served v))

module _ (r : Reading) (t : ℕ) (v : List ℕ) where
  pub fields-view-served : (g : Ranged) → ranged_of t ≡ Some g → fields_of r g v ≡ fields_view_by r t v
  fields-view-served g e = rw e

  pub fields-view-other : ranged_of t ≡ None → Err (not_served v) ≡ fields_view_by r t v
  fields-view-other e = rw e

  pub words-view-served : (a : Rle) → rle_of t ≡ Some a → words_shown r a v ≡ words_view_by r t v
  words-view-served a e = rw e

  pub words-view-other : rle_of t ≡ None → words_view_by r t v ≡ Err (not_served v)
  words-view-other e = rw e

module _ (t : ℕ) (v : List ℕ) (c : Cursor) (budget : ℕ) where
  pub advance-view-served : (a : Rle) (room : ℕ) → rle_of t ≡ Some a
      → advance_of a v c budget room ≡ advance_by t v c budget room
  advance-view-served a room e = rw e

  pub filled-view-served : (a : Rle) (out : List ℕ) → rle_of t ≡ Some a
      → stretch_filled a v c budget out ≡ filled_by t v c budget out
  filled-view-served a out e = rw e

  pub advance-view-other : (room : ℕ) → rle_of t ≡ None → Err (not_served v) ≡ advance_by t v c budget room
  advance-view-other room e = rw e

  pub filled-view-other : (out : List ℕ) → rle_of t ≡ None → out ≡ filled_by t v c budget out
  filled-view-other out e = rw e
