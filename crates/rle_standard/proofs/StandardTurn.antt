-- One turn of the standard list: the word at an index of the bytes. Assumes nothing.
--     Standing     `left` positions are still inside, and the next one has the number `first`
--     here         what is still to be listed there
--     turn         the word at hand, and then the rest
use Prim.Native.Nat.{ℕ, ◌+◌, ◌-◌, ◌≤◌, ◌<◌}
use mathlib.Core.Path.{◌≡◌, refl, sym}
use mathlib.Core.Bool.{cond}
use mathlib.Core.List.{List, []}
use native.Mathlib.Omega.{arith}
use lib.ListN.{length, take, drop}
use lib.Dec.{leb}
use borrow.Author.Tests.{leb-true, leb-false}
use Rattle.laws.proofs.Tests.{either}
use Rattle.def_wire.specs.Bytes.{words16, be16}
use Rattle.def_standard.specs.declared.Range.{Range}
use Rattle.def_standard.specs.Chunks.{covers_of, values_in}
use Rattle.def_standard.specs.Range.{number_of}
use Rattle.def_standard.specs.Standard.{numbers_from}
use Rattle.def_crate.specs.Sequence.{moved_by}
use Rattle.range.specs.Inside.{inside_count}
use Rattle.range.specs.Steps.{step_of}
use Rattle.range.proofs.NumberLaws.{number_of-zero, number_of-moved}
use Rattle.ones.specs.Along.{along}
use Rattle.ones.proofs.NumbersLaws.{numbers-nil, numbers-cons, numbers-along, numbers-outside}
use Rattle.rle_words.proofs.Turn.{words-end, words-cons, Turn}

pub record Standing (g : Range) (left first : ℕ) : Type 0 where
  pub low : left ≤ inside_count g
  pub number : first ≡ number_of g (inside_count g - left)

-- what is still to be listed from an index of the bytes on
abbrev pub here : Range → List ℕ → ℕ → ℕ → List ℕ
here g bytes at left = numbers_from g (inside_count g - left) (words16 (drop at bytes))

-- the numbers of one word
abbrev pub added : Range → ℕ → ℕ → ℕ → List ℕ
added g w left first = along (step_of g.thinning) first (take left (values_in w))

module _ (g : Range) where
  -- at the start all that are inside are left
  pub begin-standing : g.begin < 65536 → Standing g (inside_count g) g.begin
  begin-standing h =
      let e : inside_count g - inside_count g ≡ 0 = omega arith in
      record { low = omega arith; number = rw e (sym (number_of-zero g h)) }

  pub here-start : (bytes : List ℕ) → numbers_from g 0 (words16 bytes) ≡ here g bytes 0 (inside_count g)
  here-start bytes = let e : inside_count g - inside_count g ≡ 0 = omega arith in rw e

  -- a word that ends inside moves the number on
  pub next-standing : (left first covered : ℕ) → covered < left → Standing g left first
      → Standing g (left - covered) (moved_by covered g.thinning first)
  next-standing left first covered h s =
      let e : inside_count g - (left - covered) ≡ inside_count g - left + covered = omega (arith, s.low) in
      record {
        low = omega (arith, s.low);
        number = rw (e, number_of-moved g (inside_count g - left) covered, ← s.number);
      }

  -- nothing is listed after a word that goes up to the range's end or past it
  after : (left covered : ℕ) (ws : List ℕ) → left ≤ inside_count g
      → numbers_from g (inside_count g - left + covered) ws
      ≡ cond (leb left covered) [] (numbers_from g (inside_count g - (left - covered)) ws)
  after left covered ws low =
      either (leb left covered)
      (λ t. let h : left ≤ covered = leb-true _ _ t in rw t (numbers-outside g _ ws (omega arith)))
      (λ f. let h : covered < left = leb-false _ _ f in
      let e : inside_count g - left + covered ≡ inside_count g - (left - covered) = omega arith in
      rw (f, e))

  module _ (bytes : List ℕ) (at left : ℕ) where
    pub here_end : length bytes ≤ at + 1 → here g bytes at left ≡ []
    here_end h = rw (words-end bytes at h) (numbers-nil g (inside_count g - left))

    -- what follows the word at hand
    abbrev rest : List ℕ
    rest = here g bytes (at + 2) (left - covers_of (be16 bytes at))

    pub turn : (first : ℕ) → Standing g left first → at + 1 < length bytes → let w = be16 bytes at in
        Turn (here g bytes at left) (added g w left first) (leb left (covers_of w)) rest
    turn first s h =
        let e : inside_count g - (inside_count g - left) ≡ left = omega (arith, s.low) in
        let then = after left (covers_of (be16 bytes at)) (words16 (drop (at + 2) bytes)) s.low in
        record { split = rw (words-cons bytes at h, numbers-cons g, numbers-along g, s.number, e, then) }

    -- the same without a number: a count needs none
    pub count_turn : left ≤ inside_count g → at + 1 < length bytes → let w = be16 bytes at in
        Turn (here g bytes at left) (added g w left (number_of g (inside_count g - left))) (leb left (covers_of w)) rest
    count_turn low h = turn (number_of g (inside_count g - left)) (record { low = low; number = refl }) h
