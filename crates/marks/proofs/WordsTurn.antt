-- The words so far: those of the marks from a place on are still to come. Assumes nothing.
--     words-ahead     one more, and those behind it
--     words-none      past the end there are none
use Prim.Native.Nat.{ℕ, ◌+◌, ◌≤◌, ◌<◌}
use mathlib.Core.Path.{◌≡◌, ◌∙◌}
use mathlib.Core.List.{List, [], ◌∷◌}
use native.Mathlib.Omega.{arith}
use lib.ListN.{length, drop, length-drop}
use lib.Seq.{drop-drop}
use Rattle.def_marks.specs.Marks.{word_for, taken_by, words_of}
use Rattle.marked.proofs.WordsLaws.{words-nil, words-cons}

module _ (ms : List ℕ) (at : ℕ) where
  pub words-none : length ms ≤ at → words_of (drop at ms) ≡ []
  words-none h = words-nil (drop at ms) (omega (arith, h, length-drop at ms))

  pub words-ahead : {w n : ℕ} → at < length ms → (w ≡ word_for (drop at ms)) × (n ≡ taken_by (drop at ms))
      → words_of (drop at ms) ≡ w ∷ words_of (drop (at + n) ms)
  words-ahead h e =
      words-cons (drop at ms) (omega (arith, h, length-drop at ms))
      ∙ (rw (e.0, e.1, drop-drop (taken_by (drop at ms)) at ms))
