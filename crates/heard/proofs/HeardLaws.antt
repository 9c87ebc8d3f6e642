-- What a report on marks says: a block from number b on, to the number behind the last mark, of the marks' words.
-- Assumes nothing.
--     numbers-heard     it lists the numbers of the marks that are 1
--     quiet-heard       no old reader goes on past its range
use Prim.Native.Nat.{ℕ, suc, ◌+◌, ◌-◌, ◌%◌, ◌≤◌, ◌<◌}
use mathlib.Core.Path.{◌≡◌, refl, sym, ap, ◌∙◌}
use mathlib.Core.Bool.{false}
use mathlib.Core.List.{List, [], ◌∷◌}
use native.Mathlib.Omega.{arith}
use lib.ListN.{length, take, length-drop}
use lib.Seq.{take_all}
use lib.Dec.{eqb}
use borrow.Author.Tests.{eqb-false, le-ltb}
use Rattle.laws.proofs.Tests.{either}
use Rattle.def_wire.specs.declared.Fields.{Fields}
use Rattle.def_standard.specs.declared.Range.{Range}
use Rattle.def_standard.specs.Chunks.{covers_of}
use Rattle.def_standard.specs.Listing.{list_from}
use Rattle.def_standard.specs.Range.{circle, size_of, range_of, offset_of, number_of}
use Rattle.def_standard.specs.Standard.{values_of, numbers_from, numbers_of}
use Rattle.range.specs.Grid.{from_begin}
use Rattle.range.specs.Steps.{step_of}
use Rattle.range.specs.Inside.{ceil_div, inside_count}
use Rattle.range.proofs.GridLaws.{whole-on-grid, range-on-grid}
use Rattle.ones.specs.Along.{along}
use Rattle.ones.specs.Places.{numbers_in}
use Rattle.ones.proofs.ListingLaws.{along-padded}
use Rattle.ones.proofs.NumbersLaws.{numbers-along}
use Rattle.misled.specs.Known.{FirstOne}
use Rattle.misled.specs.Misled.{outside_at, goes_on, misled_words}
use Rattle.misled.proofs.MisledLaws.{shared-on}
use Rattle.misled.proofs.OutsideLaws.{outside-none}
use Rattle.def_marks.specs.Marks.{word_for, taken_by, words_of}
use Rattle.def_marks.specs.Report.{end_of, heard_of}
use Rattle.marked.specs.Marked.{Marks}
use Rattle.heard.proofs.ValuesLaws.{values-words, covers-word, value-behind, by-marks}

-- ---- a range that all the marks are inside

module _ (g : Range) where
  -- zeros behind the marks list nothing, so the list is that of the marks
  numbers-marks : (ms : List ℕ) → Marks ms → length ms ≤ inside_count g
      → numbers_of g (words_of ms) ≡ along (step_of g.thinning) (number_of g 0) ms
  unfolding numbers_from numbers_in
  numbers-marks ms marks h =
      let vs : List ℕ = values_of (words_of ms) in
      let i : ℕ = inside_count g - 0 in
      let step : ℕ = step_of g.thinning in
      numbers-along g 0 vs ∙ ap (λ (l : List ℕ). along step (number_of g 0) (take i l)) (values-words ms marks)
      ∙ along-padded step (number_of g 0) i ms (length vs - length ms) ∙ (rw (take_all i ms (omega arith)))

  -- the next word has no one outside
  outside-word : (p : ℕ) (ms : List ℕ) → Marks ms → length ms ≤ inside_count g - p
      → covers_of (word_for ms) ≤ outside_at g p (word_for ms)
  outside-word p ms marks h =
      let w : ℕ = word_for ms in
      let left : ℕ = inside_count g - p in
      let none : FirstOne w left (left + covers_of w) = record {
        from = omega arith;
        zeros = λ i a b c. value-behind ms marks i (omega arith) c;
        one = λ k. absurd (omega arith);
      } in
      outside-none g p w refl none (omega arith)

  -- nor has any behind it
  quiet-words : (end : ℕ) (ms : List ℕ) → Marks ms → (p : ℕ) → length ms ≤ inside_count g - p
      → goes_on g end p (words_of ms) ≡ false
  unfolding goes_on
  quiet-words end =
      by-marks (λ ms ws. (p : ℕ) → length ms ≤ inside_count g - p → goes_on g end p ws ≡ false) (λ p h. refl)
      (λ ms marks rest p h.
      rw (le-ltb _ _ (outside-word p ms marks h), covers-word ms marks)
      (rest (p + taken_by ms) (omega (arith, length-drop (taken_by ms) ms))))

-- ---- the report

-- from b to the number behind the last mark there are as many numbers as marks, or all
size_reaches : (b n : ℕ) → b < 65536 → n ≤ 65536 → n ≤ size_of b ((b + n) % circle)
size_reaches b n h k =
    let e : ℕ = (b + n) % circle in
    either (eqb b e) (λ t. rw t (omega arith)) (λ t. let z : b ≡ e → ⊥ = eqb-false _ _ t in rw t (omega arith))

-- the numbers heard, from mark p on, are one apart on the circle
heard-along : (b p : ℕ) (ms : List ℕ)
    → list_from (λ q m. eqb m 1) (λ q (m : ℕ). (b + q) % circle) p ms ≡ along 1 ((b + p) % circle) ms
unfolding along
heard-along b p [] = refl
heard-along b p (m ∷ ms) =
    let e : ((b + p) % circle + 1) % circle ≡ (b + suc p) % circle = omega arith in
    rw (e, heard-along b (suc p) ms)

-- its block's fields
abbrev pub heard_fields : ℕ → ℕ → List ℕ → Fields
heard_fields s b ms = record { ssrc = s; begin = b; end = end_of b ms; thinning = 0 }

module _ (s b : ℕ) (ms : List ℕ) (h : b < 65536) (k : length ms ≤ 65536) (marks : Marks ms) where
  -- nothing is thinned, so its range begins with b
  abbrev f : Fields
  f = heard_fields s b ms

  whole-range : range_of f ≡ from_begin f
  whole-range = range-on-grid f h (whole-on-grid f refl)

  all-inside : length ms ≤ inside_count (from_begin f)
  unfolding inside_count ceil_div
  all-inside = omega (arith, size_reaches b (length ms) h k)

  pub numbers-heard : numbers_of (range_of (heard_fields s b ms)) (words_of ms) ≡ heard_of b ms
  unfolding offset_of number_of heard_of
  numbers-heard =
      rw whole-range (numbers-marks (from_begin f) ms marks all-inside) ∙ sym (heard-along b 0 ms)

  pub quiet-heard : misled_words (heard_fields s b ms) (words_of ms) ≡ false
  quiet-heard =
      rw (shared-on f (whole-on-grid f refl), whole-range)
      (quiet-words (from_begin f) (end_of b ms) ms marks 0 (omega (arith, all-inside)))
