-- A block of type 1 or 2 ends at a run of no length. The one place that unfolds `clear_words` and `kind_then`. Assumes
-- nothing.
--     clear-nil, clear-here, clear_behind     how many words stand before such a run, by the first word
--     clear-all                               all of them, where there is none
--     words_take                              the words of a part
--     numbers_then, listed_then                 what the bytes behind the fields list, and then a course
--     short-then, ranged-then                 a block of types 1 to 3, before its fields have come and with them
--     whole-then                              a block without such a run, and then a course
use Rattle.std.specs.Prelude.{Option, Ok, Some, None}
use Prim.Native.Nat.{ℕ, zero, suc, ◌+◌, ◌*◌, ◌%◌, ◌≤◌, ◌<◌}
use mathlib.Core.Path.{◌≡◌, refl, sym, ap, ◌∙◌}
use mathlib.Core.Bool.{false}
use mathlib.Core.List.{List, [], ◌∷◌, map}
use native.Mathlib.Omega.{arith}
use lib.ListN.{length, get_or, take, drop, length-take, length-drop}
use lib.Seq.{length-take-le, take_all, take-nil, take-add, drop_at, get_or-take}
use lib.Dec.{eqb}
use borrow.Author.Tests.{le-leb, lt-leb, eq-eqb, ne_eqb, eqb-true, eqb-false}
use Rattle.def_wire.specs.declared.Kind.{Kind}
use Rattle.laws.proofs.Tests.{either, true≢false}
use Rattle.utils.proofs.BytesLaws.{pair_up-end, length-pair_up}
use Rattle.utils.proofs.ClearLaws.{clear-fine, fine-clear, has-nil, has_here, has-behind}
use Rattle.def_wire.specs.declared.Ranged.{Ranged}
use Rattle.def_wire.specs.declared.Ranged.TheVariants.{Chunks, Times}
use Rattle.def_wire.specs.declared.Kind.TheVariants.{Spans, Clock, Echoes, Statistics}
use Rattle.def_wire.specs.Bytes.{words16, words32, pair_up}
use Rattle.def_wire.specs.Block.{block_length, fields_at, words_at, lost_run, has, clear_rule}
use Rattle.def_standard.specs.declared.Range.{Range}
use Rattle.def_standard.specs.Range.{range_of}
use Rattle.def_standard.specs.Standard.{numbers_from, pairs_from}
use Rattle.def_portions.specs.declared.Event.TheVariants.{Number, Pair}
use Rattle.def_portions.specs.Events.{Course, then, unless, ranged_of, kind_events, clear_words, lost_fault}
use Rattle.def_portions.specs.Events.{kind_then}

-- ---- words

words_take : (n : ℕ) (bs : List ℕ) → words16 (take (2 * n) bs) ≡ take n (words16 bs)
unfolding pair_up
words_take zero bs = refl
words_take (suc n) [] = rw (take-nil (2 * suc n))
words_take (suc n) (x ∷ []) = let e : 2 * suc n ≡ suc (suc (2 * n)) = omega arith in rw (e, take-nil (suc (2 * n)))
words_take (suc n) (x ∷ y ∷ bs) =
    let e : 2 * suc n ≡ suc (suc (2 * n)) = omega arith in
    rw e (ap (λ (l : List ℕ). (x * 256 + y) ∷ l) (words_take n bs))

module _ (w : ℕ) (ws : List ℕ) where
  pub clear-here : w ≡ lost_run → clear_words (w ∷ ws) ≡ 0
  unfolding clear_words
  clear-here e = rw (eq-eqb w lost_run e)

  pub clear_behind : (w ≡ lost_run → ⊥) → clear_words (w ∷ ws) ≡ suc (clear_words ws)
  unfolding clear_words
  clear_behind n = rw (ne_eqb w lost_run n)

pub clear-nil : clear_words [] ≡ 0
unfolding clear_words
clear-nil = refl

clear-all : (ws : List ℕ) → has lost_run ws ≡ false → clear_words ws ≡ length ws
clear-all [] e = clear-nil
clear-all (w ∷ ws) e =
    either (eqb w lost_run)
    (λ t. absurd (true≢false (sym e ∙ has_here lost_run w ws (eqb-true _ _ t))))
    (λ f. let n : w ≡ lost_run → ⊥ = eqb-false _ _ f in
    clear_behind w ws n ∙ ap suc (clear-all ws (sym (has-behind lost_run w ws n) ∙ e)))

-- ---- a block, as far as its bytes have come, and then a course

-- words from position p on, up to such a run, in a block of l bytes
abbrev pub numbers_then : Range → ℕ → ℕ → List ℕ → Course → Course
numbers_then g l p ws c = then (map Number (numbers_from g p (take (clear_words ws) ws))) (unless (clear_rule l ws) c)

-- what bytes behind the fields list
abbrev pub listed_then : Ranged → Range → ℕ → List ℕ → Course → Course
listed_then (Chunks a) g l bs c = numbers_then g l 0 (words16 bs) c
listed_then Times g l bs c = then (map Pair (pairs_from g 0 (words32 bs))) c

-- twelve bytes or more have the block's start
module _ (m : ℕ) (v : List ℕ) where
  same : (i : ℕ) → i < 12 → get_or (take (12 + m) v) i 0 ≡ get_or v i 0
  same i h = get_or-take (12 + m) v i 0 (omega arith)

  fields-take : fields_at (take (12 + m) v) ≡ fields_at v
  fields-take =
      rw (
        same 1 (omega arith),
        same 4 (omega arith),
        same 5 (omega arith),
        same 6 (omega arith),
        same 7 (omega arith),
        same 8 (omega arith),
        same 9 (omega arith),
        same 10 (omega arith),
        same 11 (omega arith),
      )

  start-take : ranged_of (take (12 + m) v) ≡ ranged_of v
  start-take = rw (fields-take, same 0 (omega arith), same 2 (omega arith), same 3 (omega arith))

-- and so many words
words-part : (n : ℕ) (v : List ℕ) → 12 ≤ length v → words_at (take (12 + 2 * n) v) ≡ take n (words_at v)
words-part n v h =
    ap words_at (take-add 12 (2 * n) v)
    ∙ ap words16 (drop_at (take 12 v) (take (2 * n) (drop 12 v)) 12 (length-take-le 12 v h))
    ∙ words_take n (drop 12 v)

module _ (v : List ℕ) (c : Course) where
  pub short-then : (r : Ranged) → length v < 12 → kind_then (Some (Spans r)) v c ≡ c
  unfolding kind_then kind_events
  short-then (Chunks a) h =
      let n = 12 + 2 * clear_words (words_at v) in
      let t : take n v ≡ v = take_all n v (omega arith) in
      let e : has lost_run (words_at v) ≡ false = rw (pair_up-end 256 v 12 (omega arith)) (has-nil lost_run) in
      rw (t, lt-leb 12 (length v) h, clear-fine (block_length v) (words_at v) e)
  short-then Times h = rw (lt-leb 12 (length v) h)

  pub ranged-then : (r : Ranged) (x : List ℕ) → drop 12 v ≡ x → 12 ≤ length v
      → kind_then (Some (Spans r)) v c
      ≡ then (ranged_of v ∷ []) (listed_then r (range_of (fields_at v)) (block_length v) x c)
  unfolding kind_then kind_events
  ranged-then (Chunks a) x e h =
      let n = clear_words (words_at v) in
      let l : 12 ≤ length (take (12 + 2 * n) v) = omega (arith, length-take (12 + 2 * n) v) in
      rw (
        le-leb 12 (length (take (12 + 2 * n) v)) l,
        start-take (2 * n) v,
        fields-take (2 * n) v,
        words-part n v h,
        e,
      )
  ranged-then Times x e h = rw (le-leb 12 (length v) h, e)

  pub whole-then : (kd : Option Kind) → length v % 2 ≡ 0 → lost_fault kd v ≡ Ok tt → kind_then kd v c ≡ then (kind_events kd v) c
  unfolding kind_then
  whole-then (Some (Spans (Chunks a))) h f =
      let ws = words_at v in
      let e : clear_words ws ≡ length ws = clear-all ws (fine-clear (block_length v) ws f) in
      let n = 12 + 2 * clear_words ws in
      let t : take n v ≡ v = take_all n v (omega (arith, length-pair_up 256 (drop 12 v), length-drop 12 v)) in
      rw (t, f)
  whole-then (Some (Spans Times)) h f = refl
  whole-then (Some Clock) h f = refl
  whole-then (Some Echoes) h f = refl
  whole-then (Some Statistics) h f = refl
  whole-then None h f = refl
