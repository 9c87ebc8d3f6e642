-- The times of a block of type 3, as far as their bytes have come. Assumes bytes below 256.
--     times      times in a row list the pairs from position p on
use Prim.Native.Nat.{ℕ, ◌+◌, ◌*◌, ◌-◌, ◌≤◌, ◌<◌}
use mathlib.Core.Path.{◌≡◌, refl, ◌∙◌}
use mathlib.Core.List.{List, [], ◌∷◌, ◌++◌, map, map-append}
use native.Mathlib.Numerals.{add-one}
use native.Mathlib.Omega.{arith}
use lib.ListN.{length}
use lib.Dec.{ltb}
use borrow.Author.Tests.{ltb-true, ltb-false}
use Rattle.laws.proofs.Tests.{either}
use Rattle.utils.proofs.BytesLaws.{Bytes, pair_up-end, length-pair_up}
use Rattle.def_wire.specs.Bytes.{be32, words16, words32, pair_up}
use Rattle.def_standard.specs.declared.Range.{Range}
use Rattle.def_standard.specs.Range.{inside}
use Rattle.def_standard.specs.Standard.{pairs_from}
use Rattle.range.specs.Inside.{inside_count}
use Rattle.range.proofs.InsideLaws.{is-inside, is-outside}
use Rattle.def_portions.specs.declared.Event.{Event}
use Rattle.def_portions.specs.declared.Event.TheVariants.{Pair}
use Rattle.def_portions.specs.Events.{then}
use Rattle.states.specs.declared.Known.{Known}
use Rattle.states.specs.Steps.{state, time, moved, passed, shown_by, lone_of, opened}
use Rattle.followed.specs.Run.{run_of, opening}
use Rattle.followed.proofs.ItemRun.{not-zero, whole, item-open, item-passed}
use Rattle.followed.proofs.ValueLaws.{by-four, held_low}
use Rattle.followed.proofs.UnitsRun.{Units, listed-split}
use Rattle.followed.proofs.WordsRun.{Stands, stands-moved}

-- fewer than four bytes make no word
pub words32-short : (bs : List ℕ) → length bs < 4 → words32 bs ≡ []
words32-short bs h = pair_up-end 65536 (words16 bs) 0 (omega (arith, length-pair_up 256 bs))

module _ (g : Range) where
  abbrev pub pairs_listed : ℕ → List ℕ → List Event
  pairs_listed p bs = map Pair (pairs_from g p (words32 bs))

  abbrev time_shown : ℕ → List ℕ → List Event
  time_shown p bs = map Pair (pairs_from g p (be32 bs 0 ∷ []))

  pairs-nil : (p : ℕ) → pairs_from g p [] ≡ []
  unfolding pairs_from
  pairs-nil p = refl

  -- a time's pair, and then those of the rest
  pairs-cons : (p t : ℕ) (ts : List ℕ) → pairs_from g p (t ∷ ts) ≡ pairs_from g p (t ∷ []) ++ pairs_from g (p + 1) ts
  unfolding pairs_from
  pairs-cons p t ts = rw add-one (either (inside g p) (λ y. rw y) (λ n. rw n))

  pairs-split : (p : ℕ) (bs x : List ℕ) → length bs ≡ 4
      → pairs_listed p (bs ++ x) ≡ time_shown p bs ++ pairs_listed (p + 1) x
  unfolding pair_up
  pairs-split p bs x =
      by-four (λ s. pairs_listed p (s ++ x) ≡ time_shown p s ++ pairs_listed (p + 1) x)
      (λ a b c d. let t = (a * 256 + b) * 65536 + (c * 256 + d) in
      rw (pairs-cons p t (words32 x))
      (map-append Pair (pairs_from g p (t ∷ [])) (pairs_from g (p + 1) (words32 x))))
      bs

  -- a complete time's event
  time-shown : (p : ℕ) (k : Known) → Stands g p k → (rest behind : ℕ) (bs : List ℕ) → length bs ≡ 4 → Bytes bs
      → shown_by (whole time 4 rest behind k bs) ≡ time_shown p bs
  unfolding shown_by lone_of pairs_from
  time-shown p k s rest behind bs e y =
      either (ltb p (inside_count g))
      (λ t. let h : p < inside_count g = ltb-true _ _ t in
      let z : 0 < inside_count g - p = omega arith in
      rw (s.number, s.left, held_low time refl bs e y, is-inside g p h, not-zero (inside_count g - p) z))
      (λ f. let h : inside_count g ≤ p = ltb-false _ _ f in
      let z : inside_count g - p ≡ 0 = omega arith in
      rw (s.left, z, is-outside g p h))

  time-whole : (p : ℕ) (k : Known) → Stands g p k → (bs : List ℕ) → length bs ≡ 4 → Bytes bs
      → (rest behind : ℕ) (x : List ℕ)
      → run_of (state time 4 0 (4 + rest - 4) behind k) (bs ++ x)
      ≡ then (time_shown p bs) (opening (opened (moved k 1) rest behind time 4) x)
  unfolding passed
  time-whole p k s bs e y rest behind x =
      let r : 4 + rest - 4 ≡ rest = omega arith in
      item-passed time 4 (4 + rest - 4) behind k bs x (omega arith) e refl
      ∙ (rw (time-shown p k s (4 + rest - 4) behind bs e y, r))

  pub times : Units time 4 4 (Stands g) (λ p bs. then (pairs_listed p bs))
  times =
      record {
        inner = refl;
        some = omega arith;
        shown = λ p bs. then (time_shown p bs);
        past = λ p bs. p + 1;
        moved = λ k bs. moved k 1;
        kept = λ k bs. refl;
        short = λ p bs h c. rw (words32-short bs h, pairs-nil p);
        begun = λ k rest behind bs h. item-open time 4 (4 + rest - 4) behind k bs h;
        split = λ p bs x e. listed-split (time_shown p bs) (pairs_listed (p + 1) x) (pairs-split p bs x e);
        passes = λ p k s bs e y. stands-moved g p 1 k s;
        whole = time-whole;
      }
