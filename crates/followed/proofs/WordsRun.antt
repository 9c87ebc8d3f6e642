-- The words of a block of type 1 or 2, as far as their bytes have come. Assumes bytes below 256.
--     Stands     position p of a range is the next one; StandsIn, in a block of so many bytes
--     words      words in a row list the numbers from position p on, up to a run of no length
use Rattle.std.specs.Prelude.{Ok, Err}
use Prim.Native.Nat.{ℕ, ◌+◌, ◌*◌, ◌-◌}
use mathlib.Core.Path.{◌≡◌, refl, sym, ◌∙◌}
use mathlib.Core.List.{List, [], ◌∷◌, ◌++◌, map, map-append}
use native.Mathlib.Omega.{arith}
use lib.ListN.{length, take}
use lib.Dec.{eqb}
use borrow.Author.Tests.{eqb-true, eqb-false}
use Rattle.def_refusals.specs.Answers.{Or}
use Rattle.laws.proofs.Tests.{either}
use Rattle.utils.proofs.BytesLaws.{Bytes, pair_up-end}
use Rattle.utils.proofs.ClearLaws.{clear-fine, clear-lost, has-nil, has_here, has-behind}
use Rattle.def_wire.specs.Bytes.{be16, words16, pair_up, four}
use Rattle.def_wire.specs.Block.{block_length, lost_run, clear_rule}
use Rattle.def_standard.specs.declared.Range.{Range}
use Rattle.def_standard.specs.Chunks.{covers_of, values_in}
use Rattle.def_standard.specs.Range.{number_of}
use Rattle.def_standard.specs.Standard.{numbers_from}
use Rattle.range.specs.Inside.{inside_count}
use Rattle.range.proofs.NumberLaws.{number_of-moved}
use Rattle.ones.specs.Places.{word_numbers}
use Rattle.ones.proofs.NumbersLaws.{numbers-nil, numbers-cons, numbers-along}
use Rattle.def_portions.specs.declared.Event.{Event}
use Rattle.def_portions.specs.declared.Event.TheVariants.{Number}
use Rattle.states.specs.declared.Known.{Known}
use Rattle.def_portions.specs.Events.{Course, then, unless, clear_words}
use Rattle.states.specs.Steps.{state, word, thinning_in, numbers_in, moved, item_fault, passed, shown_by, opened}
use Rattle.followed.specs.Run.{run_of, opening}
use Rattle.followed.proofs.ItemRun.{then-then, whole, item-open, item-passed, item_refused}
use Rattle.followed.proofs.ValueLaws.{by_two, held_two}
use Rattle.followed.proofs.LostLaws.{clear-here, clear_behind, clear-nil, numbers_then}
use Rattle.followed.proofs.UnitsRun.{Units}

pub record Stands (g : Range) (p : ℕ) (k : Known) : Type 0 where
  pub number : k.next ≡ number_of g p
  pub left : k.inside ≡ inside_count g - p
  pub thinning : thinning_in k ≡ g.thinning

module _ (g : Range) where
  -- so many positions on
  pub stands-moved : (p n : ℕ) (k : Known) → Stands g p k → Stands g (p + n) (moved k n)
  stands-moved p n k s =
      record {
        number = rw (s.number, s.thinning) (sym (number_of-moved g p n));
        left = omega (arith, s.left);
        thinning = s.thinning;
      }

  -- a word's numbers
  numbers-stand : (p : ℕ) (k : Known) → Stands g p k → (w : ℕ) → numbers_in k w ≡ word_numbers g p w
  numbers-stand p k s w = rw (s.number, s.left, s.thinning) (sym (numbers-along g p (values_in w)))

-- in a block of l bytes
pub record StandsIn (g : Range) (l p : ℕ) (k : Known) : Type 0 where
  pub stands : Stands g p k
  pub length : block_length (four k.block) ≡ l

module _ (g : Range) (l : ℕ) where
  abbrev word_shown : ℕ → List ℕ → List Event
  word_shown p bs = map Number (word_numbers g p (be16 bs 0))

  -- a word's numbers, or its refusal
  abbrev word_then : ℕ → List ℕ → Course → Course
  word_then p bs c = unless (clear_rule l (be16 bs 0 ∷ [])) (then (word_shown p bs) c)

  numbers-none : (p : ℕ) (c : Course) → numbers_then g l p [] c ≡ c
  numbers-none p c = rw (clear-nil, numbers-nil g p, clear-fine l [] (has-nil lost_run))

  -- a word, and then others
  module _ (p w : ℕ) (ws : List ℕ) (c : Course) where
    abbrev first : Course
    first =
        unless (clear_rule l (w ∷ []))
        (then (map Number (word_numbers g p w)) (numbers_then g l (p + covers_of w) ws c))

    numbers-lost : w ≡ lost_run → numbers_then g l p (w ∷ ws) c ≡ first
    numbers-lost e =
        rw (
          clear-here w ws e,
          numbers-nil g p,
          clear-lost l (w ∷ ws) (has_here lost_run w ws e),
          clear-lost l (w ∷ []) (has_here lost_run w [] e),
        )

    numbers_more : (w ≡ lost_run → ⊥) → numbers_then g l p (w ∷ ws) c ≡ first
    unfolding clear_rule
    numbers_more n =
        let a = map Number (word_numbers g p w) in
        let b = map Number (numbers_from g (p + covers_of w) (take (clear_words ws) ws)) in
        rw (
          clear_behind w ws n,
          numbers-cons g p w (take (clear_words ws) ws),
          map-append Number (word_numbers g p w) (numbers_from g (p + covers_of w) (take (clear_words ws) ws)),
          has-behind lost_run w ws n,
          has-behind lost_run w [] n,
          has-nil lost_run,
        ) (sym (then-then a b (unless (clear_rule l ws) c)))

  numbers-split : (p : ℕ) (bs x : List ℕ) → length bs ≡ 2 → (c : Course)
      → numbers_then g l p (words16 (bs ++ x)) c
      ≡ word_then p bs (numbers_then g l (p + covers_of (be16 bs 0)) (words16 x) c)
  unfolding pair_up
  numbers-split p bs x e c =
      by_two
      (λ s. numbers_then g l p (words16 (s ++ x)) c
      ≡ word_then p s (numbers_then g l (p + covers_of (be16 s 0)) (words16 x) c))
      (λ a b. let w = a * 256 + b in
      either (eqb w lost_run)
      (λ t. numbers-lost p w (words16 x) c (eqb-true _ _ t))
      (λ f. numbers_more p w (words16 x) c (eqb-false _ _ f)))
      bs e

  -- a complete word
  module _ (p : ℕ) (k : Known) (s : StandsIn g l p k) (bs : List ℕ) (e : length bs ≡ 2) (y : Bytes bs)
      (rest behind : ℕ) (x : List ℕ) where
    word-fault : item_fault (whole word 2 (2 + rest - 2) behind k bs) ≡ clear_rule l (be16 bs 0 ∷ [])
    word-fault = rw (held_two word refl bs e y, s.length)

    word-by : (f : Or (Unit {0})) → clear_rule l (be16 bs 0 ∷ []) ≡ f
        → run_of (state word 2 0 (2 + rest - 2) behind k) (bs ++ x)
        ≡ unless f (then (word_shown p bs) (opening (opened (moved k (covers_of (be16 bs 0))) rest behind word 2) x))
    unfolding passed shown_by
    word-by (Ok _) f =
        let r : 2 + rest - 2 ≡ rest = omega arith in
        item-passed word 2 (2 + rest - 2) behind k bs x (omega arith) e (word-fault ∙ f)
        ∙ (rw (held_two word refl bs e y, numbers-stand g p k s.stands (be16 bs 0), r))
    word-by (Err r) f = item_refused word 2 (2 + rest - 2) behind k bs x (omega arith) e r (word-fault ∙ f)

  pub words : Units word 2 2 (StandsIn g l) (λ p bs. numbers_then g l p (words16 bs))
  words =
      record {
        inner = refl;
        some = omega arith;
        shown = word_then;
        past = λ p bs. p + covers_of (be16 bs 0);
        moved = λ k bs. moved k (covers_of (be16 bs 0));
        kept = λ k bs. refl;
        short = λ p bs h c. rw (pair_up-end 256 bs 0 (omega arith)) (numbers-none p c);
        begun = λ k rest behind bs h. item-open word 2 (2 + rest - 2) behind k bs h;
        split = numbers-split;
        passes = λ p k s bs e y. record {
          stands = stands-moved g p (covers_of (be16 bs 0)) k s.stands;
          length = s.length;
        };
        whole = λ p k s bs e y rest behind x. word-by p k s bs e y rest behind x (clear_rule l (be16 bs 0 ∷ [])) refl;
      }
