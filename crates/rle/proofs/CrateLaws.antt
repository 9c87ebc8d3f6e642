-- The crate reading's list, word by word. Assumes nothing.
--     crate-cons      a word's numbers up to its first one that fails, and then, where none does, those of the rest
--     stop-*          where a word's first failing one is
--     most-*          as many numbers as words can list
use Prim.Native.Nat.{ℕ, suc, ◌+◌, ◌*◌, ◌-◌, ◌%◌, ◌^◌, ◌≤◌, ◌<◌}
use mathlib.Core.Path.{◌≡◌, refl, ap, ◌∙◌}
use mathlib.Core.Bool.{cond}
use mathlib.Core.List.{List, [], ◌∷◌, ◌++◌, map}
use native.Mathlib.Nat.{mod-lt}
use native.Mathlib.Omega.{arith}
use lib.ListN.{length, take, length-append, length-take}
use lib.Dec.{ltb, eqb, lit<}
use borrow.Author.Tests.{lt-ltb, le-ltb, ltb-true}
use Rattle.laws.proofs.Tests.{either, both}
use Rattle.def_standard.specs.Chunks.{covers_of, values_in}
use Rattle.def_standard.specs.Listing.{list_from}
use Rattle.def_crate.specs.Sequence.{passes, sequence_of, moved_by}
use Rattle.def_crate.specs.Crate.{Try, while_from, ones_in, try_at, tries_from, crate_numbers_from}
use Rattle.chunk.proofs.ChunkLaws.{length-values_in, covers-lt}
use Rattle.range.specs.Steps.{step_of}
use Rattle.ones.specs.Along.{along}
use Rattle.ones.specs.Stops.{fails_at, stop_from, stop_at}
use Rattle.rle.specs.Most.{most_of}
use Rattle.ones.proofs.ListingLaws.{length-along-le}
use Rattle.range.proofs.SequenceLaws.{sequence_of-suc, sequence_of-zero}
use Rattle.ones.proofs.WordLaws.{word-zeros}

module _ (end t : ℕ) where
  -- the tries that pass, up to the first that fails
  abbrev kept_from : ℕ → List Try → List ℕ
  kept_from p tries =
      while_from (λ (_ : ℕ) (x : Try). passes x.start end x.number) (λ (_ : ℕ) (x : Try). x.number) p tries

  -- which goes by the tries alone
  kept-anywhere : (p q : ℕ) (tries : List Try) → kept_from p tries ≡ kept_from q tries
  kept-anywhere p q [] = refl
  kept-anywhere p q (x ∷ xs) = rw (kept-anywhere (suc p) (suc q) xs)

  module _ (start : ℕ) where
    -- the first failing one lies among the places
    pub stop-low : (q : ℕ) (vs : List ℕ) → q ≤ stop_from start end t q vs
    unfolding stop_from
    stop-low q [] = omega arith
    stop-low q (v ∷ vs) =
        let r : suc q ≤ stop_from start end t (suc q) vs = stop-low (suc q) vs in
        both (λ (n : ℕ). q ≤ n) (fails_at start end t q v) (λ _. omega arith) (λ _. omega arith)

    pub stop-high : (q : ℕ) (vs : List ℕ) → stop_from start end t q vs ≤ q + length vs
    unfolding stop_from
    stop-high q [] = omega arith
    stop-high q (v ∷ vs) =
        let r : stop_from start end t (suc q) vs ≤ suc q + length vs = stop-high (suc q) vs in
        both (λ (n : ℕ). n ≤ q + suc (length vs)) (fails_at start end t q v) (λ _. omega arith) (λ _. omega arith)

    -- the ones of values whose first place is q, and then other tries
    abbrev tries_at : ℕ → List ℕ → List Try
    tries_at q vs = map (try_at t start) (list_from (λ (_ : ℕ) (value : ℕ). eqb value 1) (λ (r : ℕ) (_ : ℕ). r) q vs)

    -- what follows, where no one fails
    abbrev after : ℕ → List ℕ → List Try → List ℕ
    after q vs others = cond (ltb (stop_from start end t q vs) (q + length vs)) [] (kept_from 0 others)

    kept-values : (p q : ℕ) (vs : List ℕ) (others : List Try)
        → kept_from p (tries_at q vs ++ others)
        ≡ along (step_of t) (sequence_of q start t) (take (stop_from start end t q vs - q) vs) ++ after q vs others
    unfolding stop_from along
    kept-values p q [] others =
        let e : q - q ≡ 0 = omega arith in
        let n : q + 0 ≤ q = omega arith in
        rw (e, le-ltb _ _ n) (kept-anywhere p 0 others)
    kept-values p q (v ∷ vs) others =
        let low : suc q ≤ stop_from start end t (suc q) vs = stop-low (suc q) vs in
        let stop = stop_from start end t (suc q) vs in
        let less : stop - q ≡ suc (stop - suc q) = omega arith in
        let same : q + suc (length vs) ≡ suc q + length vs = omega arith in
        either (eqb v 1)
        (λ one. either (passes start end (sequence_of q start t))
        (λ good. rw (one, good, less, one, same, kept-values (suc p) (suc q) vs others, sequence_of-suc q start t))
        (λ bad. let e : q - q ≡ 0 = omega arith in
        let n : q < q + suc (length vs) = omega arith in
        rw (one, bad, e, lt-ltb _ _ n)))
        (λ other. rw (other, less, other, same, kept-values p (suc q) vs others, sequence_of-suc q start t))

    -- a word's numbers up to its first one that fails; the rest follows, from the moved start, where none does
    pub crate-cons : (w : ℕ) (ws : List ℕ) → start < 65536
        → crate_numbers_from end t start (w ∷ ws)
        ≡ along (step_of t) start (take (stop_at start end t w) (values_in w))
        ++ cond (ltb (stop_at start end t w) (covers_of w)) [] (crate_numbers_from end t (moved_by (covers_of w) t start) ws)
    unfolding crate_numbers_from tries_from ones_in
    crate-cons w ws h =
        let e : stop_at start end t w - 0 ≡ stop_at start end t w = omega arith in
        let z : 0 + length (values_in w) ≡ covers_of w = omega (arith, length-values_in w) in
        kept-values 0 0 (values_in w) (tries_from t (moved_by (covers_of w) t start) ws)
        ∙ (rw (sequence_of-zero start t h, e, z))

  pub crate-nil : (start : ℕ) → crate_numbers_from end t start [] ≡ []
  unfolding crate_numbers_from tries_from
  crate-nil start = refl

  -- a word lists no more than it can
  word-most : (start w : ℕ)
      → length (along (step_of t) start (take (stop_at start end t w) (values_in w))) ≤ cond (ltb w 16384) 0 (covers_of w)
  word-most start w =
      let stop = stop_at start end t w in
      let few = length-along-le (step_of t) start (take stop (values_in w)) in
      both (λ (n : ℕ). length (along (step_of t) start (take stop (values_in w))) ≤ n) (ltb w 16384)
      (λ u. omega (arith, ap length (word-zeros (step_of t) start stop w (ltb-true _ _ u))))
      (λ f. omega (arith, few, length-take stop (values_in w), length-values_in w))

  -- and so do words
  pub length-crate : (start : ℕ) (ws : List ℕ) → start < 65536 → length (crate_numbers_from end t start ws) ≤ most_of ws
  unfolding most_of
  length-crate start [] h = rw (crate-nil start) (omega arith)
  length-crate start (w ∷ ws) h =
      let next = moved_by (covers_of w) t start in
      let few = word-most start w in
      let rest : length (crate_numbers_from end t next ws) ≤ most_of ws =
      length-crate next ws (mod-lt (start + covers_of w * 2 ^ t % 65536) (lit< tt)) in
      let all : ℕ → Type 0 = λ (n : ℕ). n ≤ cond (ltb w 16384) 0 (covers_of w) + most_of ws in
      let word = length (along (step_of t) start (take (stop_at start end t w) (values_in w))) in
      rw (crate-cons start w ws h, length-append)
      (both (λ (l : List ℕ). all (word + length l)) (ltb (stop_at start end t w) (covers_of w)) (λ _. omega arith)
      (λ _. omega arith))

-- a word's part of `most_of`, and its bound
pub most-cons : (w : ℕ) (ws : List ℕ) → most_of (w ∷ ws) ≡ cond (ltb w 16384) 0 (covers_of w) + most_of ws
unfolding most_of
most-cons w ws = refl

pub most-nil : most_of [] ≡ 0
unfolding most_of
most-nil = refl

pub most-le : (ws : List ℕ) → most_of ws ≤ 16383 * length ws
unfolding most_of
most-le [] = omega arith
most-le (w ∷ ws) =
    let one : cond (ltb w 16384) 0 (covers_of w) ≤ 16383 =
    both (λ (x : ℕ). x ≤ 16383) (ltb w 16384) (λ _. omega arith) (λ _. covers-lt w) in
    omega (arith, most-le ws)
