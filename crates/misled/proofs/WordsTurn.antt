-- One turn of the pass over the words of a body of types 1 and 2. Assumes nothing.
--     Passing        so far words were passed
--     Word           the word at an index of the bytes
--     begin          before the first word
--     ended          behind the last
--     next-clear     the word at hand ends inside the range, and is passed
--     next-none      it goes on outside, has no one there, and is passed
--     found          it has one
--     over           the words of a stretch are passed at once
use Rattle.std.proofs.Common.{◌≡◌, ℕ, zero, suc, ◌+◌, ◌-◌, ◌*◌, ◌/◌, ◌%◌, ◌<◌, ◌≤◌, false, cond, ltb, ◌⊎◌, List, ◌∷◌, length, drop, sym, refl, ap, ◌∙◌, inl, inr, ⊎_elim, add-zero, arith, length-drop, drop_of_length-le, drop-cons, le-ltb, lt-ltb}
use native.Mathlib.Nat.{mod-add-mod}
use Rattle.def_standard.specs.declared.Range.{Range}
use Rattle.def_standard.specs.Chunks.{covers_of}
use Rattle.def_standard.specs.Range.{number_of}
use Rattle.def_crate.specs.Sequence.{passes}
use Rattle.range.specs.Inside.{inside_count}
use Rattle.range.proofs.NumberLaws.{number_of-circle}
use Rattle.def_jobs.specs.Jobs.{le16, job_words}
use Rattle.little_endian.proofs.LowLaws.{get_or-low16, le16-drop}
use Rattle.jobs.specs.Places.{job_of}
use Rattle.block_size.specs.Judged.{Fielded}
use Rattle.block_size.proofs.ZerosLaws.{length-words}
use Rattle.misled.specs.Misled.{outside_at, goes_on}
use Rattle.misled.specs.Known.{FirstOne, covered_in, QuietIn, Over}
use Rattle.misled.proofs.StretchTurn.{covered_none, covered_more}
use Rattle.misled.proofs.OutsideLaws.{outside-quiet, outside-clear, outside-first, outside-none}

-- a body's words
abbrev words_of : List ℕ → List ℕ
words_of body = job_words (job_of 1 body)

-- up to an index of the bytes: `left` positions from there on are inside, and `p` is the first of them on the circle
pub record Passing (g : Range) (end : ℕ) (body : List ℕ) (left p at : ℕ) : Type 0 where
  pub word : ℕ
  pub position : ℕ
  pub index : at ≡ 10 + 2 * word
  pub inside : left ≡ inside_count g - position
  pub circle : p ≡ position % 65536
  pub same : goes_on g end position (drop word (words_of body)) ≡ goes_on g end 0 (words_of body)

-- w stands there, and covers n positions
pub record Word (body : List ℕ) (at w n : ℕ) : Type 0 where
  pub within : at < length body
  pub bytes : w ≡ le16 body at
  pub covers : n ≡ covers_of w

pub begin : (g : Range) (end : ℕ) (body : List ℕ) → Passing g end body (inside_count g) 0 10
begin g end body =
    record { word = 0; position = 0; index = refl; inside = omega arith; circle = refl; same = refl }

module _ {g : Range} {end : ℕ} {body : List ℕ} {left p at : ℕ} (f : Fielded body 2)
    (s : Passing g end body left p at) where
  pub ended : length body ≤ at → goes_on g end 0 (words_of body) ≡ false
  unfolding goes_on
  ended h =
      let k : length (words_of body) ≤ s.word = omega (arith, length-words (job_of 1 body), s.index) in
      sym s.same ∙ (rw (drop_of_length-le (words_of body) k))

  module _ {w n : ℕ} (h : Word body at w n) where
    abbrev out : ℕ
    out = outside_at g s.position w

    words-cons : drop s.word (words_of body) ≡ w ∷ drop (suc s.word) (words_of body)
    words-cons =
        let l = length-words (job_of 1 body) in
        let k : s.word < length (words_of body) = omega (arith, l, f.items, s.index, h.within) in
        let i : s.word < length (drop 10 body) / 2 = omega (arith, length-drop 10 body, l) in
        let e = get_or-low16 (drop 10 body) s.word i ∙ le16-drop 10 body (2 * s.word)
        ∙ ap (le16 body) (sym s.index) ∙ sym h.bytes in
        drop-cons (words_of body) s.word 0 k ∙ ap (λ (x : ℕ). x ∷ drop (suc s.word) (words_of body)) e

    turn : goes_on g end 0 (words_of body)
        ≡ cond (ltb out n) (passes (number_of g s.position) end (number_of g (s.position + out)))
        (goes_on g end (s.position + n) (drop (suc s.word) (words_of body)))
    unfolding goes_on
    turn = sym s.same ∙ (rw (words-cons, h.covers))

    next : (rest : ℕ) → rest ≡ left - n → n ≤ out → Passing g end body rest ((p + n) % 65536) (at + 2)
    next rest e k =
        record {
          word = suc s.word;
          position = s.position + n;
          index = omega (arith, s.index);
          inside = omega (arith, s.inside);
          circle = rw s.circle (mod-add-mod s.position 65536 n);
          same = sym (turn ∙ (rw (le-ltb _ _ k)));
        }

    pub next-clear : n ≤ left → Passing g end body (left - n) ((p + n) % 65536) (at + 2)
    next-clear k = let c = h.covers in
        next (left - n) refl (rw c (outside-clear g s.position w s.inside (rw (← c) k)))

    module _ {r : ℕ} (o : FirstOne w left r) where
      pub next-none : left < n → n ≤ r → Passing g end body 0 ((p + n) % 65536) (at + 2)
      next-none i k = let c = h.covers in
          next 0 (omega arith) (rw c (outside-none g s.position w s.inside o (rw (← c) k)))

      pub found : r < n → passes (number_of g p) end (number_of g (p + r)) ≡ goes_on g end 0 (words_of body)
      found k =
          let a : number_of g p ≡ number_of g s.position =
          rw s.circle (simp add-zero at (number_of-circle g s.position 0)) in
          let b : number_of g (p + r) ≡ number_of g (s.position + r) =
          rw s.circle (number_of-circle g s.position r) in
          let e = outside-first g s.position w s.inside o (rw (← h.covers) k) in
          sym (turn ∙ (rw (e, lt-ltb _ _ k, a, b)))

-- the words of a stretch, one after the other
module _ {g : Range} {end : ℕ} {body : List ℕ} {left p at : ℕ} (f : Fielded body 2)
    (s : Passing g end body left p at) where
  -- so many of them were passed
  abbrev Past : ℕ → Type 0
  Past n = Passing g end body (left - covered_in body at n) ((p + covered_in body at n) % 65536) (at + 2 * n)

  -- so many of them can be
  abbrev Clear : ℕ → Type 0
  Clear n = (covered_in body at n ≤ left) ⊎ QuietIn body at n

  past-none : Past 0
  past-none =
      let c = covered_none body at in
      let e : left - covered_in body at 0 ≡ left = omega (arith, c) in
      let i : (p + covered_in body at 0) % 65536 ≡ p = omega (arith, c, s.circle) in
      let j : at + 2 * 0 ≡ at = omega arith in
      rw (e, i, j) s

  clear-before : (n : ℕ) → Clear (suc n) → Clear n
  clear-before n =
      ⊎_elim (λ x. inl (omega (arith, covered_more body at n, x)))
      (λ x. inr (record { each = λ i l. x.each i (omega arith) }))

  past_more : (n : ℕ) → at + 2 * suc n ≤ length body → Clear (suc n) → Past n → Past (suc n)
  past_more n h k t =
      let w = le16 body (at + 2 * n) in
      let c = covered_more body at n in
      let o : covers_of w ≤ outside_at g t.position w =
      ⊎_elim (λ x. outside-clear g t.position w t.inside (omega (arith, c, x)))
      (λ x. outside-quiet g t.position w (x.each n (omega arith))) k in
      let i : at + 2 * suc n ≡ at + 2 * n + 2 = omega arith in
      let j : (p + covered_in body at (suc n)) % 65536 ≡ ((p + covered_in body at n) % 65536 + covers_of w) % 65536 =
      omega (arith, c) in
      rw (i, j) (next f t (record { within = omega arith; bytes = refl; covers = refl }) _ (omega (arith, c)) o)

  past : (n : ℕ) → at + 2 * n ≤ length body → Clear n → Past n
  past zero h k = past-none
  past (suc n) h k = past_more n h k (past n (omega arith) (clear-before n k))

  pub over : {rest position to : ℕ} → Over body left p at rest position to → Passing g end body rest position to
  over o = rw (o.inside, o.circle, o.index) (past o.words (omega (arith, o.index, o.within)) o.clear)
