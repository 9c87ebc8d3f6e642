-- The values of words made from marks: the marks, and zeros behind the last. Assumes nothing.
--     values-word, values-words     the next word's values, and all the words'
--     covers-word, word_below       the next word covers the marks that it takes, and has 16 bits
--     value-behind                  its value at a place behind the last mark
--     by-marks                      marked's `by-words`, of marks
--     covers-mark, covers-behind    the value at a mark's position, and at one behind the last
--     words-cover, words-below      each word covers 15 positions or more, and has 16 bits
--     words-clear                   so none is a run of ones of no length
use Prim.Native.Nat.{ℕ, zero, suc, ◌+◌, ◌*◌, ◌-◌, ◌/◌, ◌%◌, ◌^◌, ◌≤◌, ◌<◌, min}
use mathlib.Core.Path.{◌≡◌, refl, sym, ap, ◌∙◌}
use mathlib.Core.Bool.{false}
use mathlib.Core.List.{List, [], ◌∷◌, ◌++◌, append-nil}
use native.Mathlib.Nat.{mod-eq_of_lt, zero-sub, sub-zero, suc-sub-suc, zero-add}
use native.Mathlib.Omega.{arith}
use lib.ListN.{length, get_or, take, drop, replicate, length-append, length-take, length-replicate}
use lib.ListN.{replicate-append-replicate, get_or-eq_default}
use lib.Dec.{leb, ltb}
use lib.Pow.{high, low}
use borrow.Author.Tests.{leb-true, leb-false, ltb-true, ltb-false}
use Rattle.laws.proofs.Tests.{either}
use Rattle.utils.proofs.ClearLaws.{has-none}
use Rattle.written.proofs.Lists.{Under}
use Rattle.def_wire.specs.Block.{lost_run, has}
use Rattle.def_standard.specs.Chunks.{covers_of, value_of, values_in}
use Rattle.def_standard.specs.Standard.{values_of}
use Rattle.chunk.proofs.ChunkLaws.{length-values_in, values-run, values-at}
use Rattle.ones.proofs.DigitLaws.{digits, digits_mod, digits-zero, digits-all}
use Rattle.def_marks.specs.Marks.{run_of, bits_of, first_mark, ahead, word_for, taken_by, words_of}
use Rattle.marked.specs.Marked.{Marks}
use Rattle.marked.proofs.RunLaws.{run-le, run-each, run-behind}
use Rattle.marked.proofs.BitsLaws.{marks-drop, bits_none, bits-head, bits_below}
use Rattle.marked.proofs.WordsLaws.{taken-least, word-run, taken-run, word-vector, taken-vector, by-words}

-- the first n marks, with zeros where there are fewer
abbrev pub pad_to : ℕ → List ℕ → List ℕ
pad_to n ms = take n ms ++ replicate (n - length ms) 0

-- ---- the next word

take-run : (m k : ℕ) (ms : List ℕ) → k ≤ run_of m ms → take k ms ≡ replicate k m
take-run m zero ms h = refl
take-run m (suc k) [] h = absurd (omega (arith, run-le m []))
take-run m (suc k) (x ∷ ms) h =
    let e : x ≡ m = run-each m (x ∷ ms) 0 (omega arith) in
    rw (e, take-run m k ms (run-behind m k x ms h))

-- the bits, read again, are the marks
digits-bits : (k : ℕ) (ms : List ℕ) → Marks ms → digits k (bits_of k ms) ≡ pad_to k ms
unfolding digits
digits-bits zero ms marks = rw (zero-sub (length ms))
digits-bits (suc k) [] marks = rw (bits_none (suc k), sub-zero (suc k)) (digits-zero (suc k))
digits-bits (suc k) (m ∷ ms) marks =
    let v : ℕ = m * 2 ^ k + bits_of k ms in
    let b : bits_of k ms < 2 ^ k = bits_below k ms (λ i. marks (suc i)) in
    let d : v / 2 ^ k % 2 ≡ m = rw (high m k b) (mod-eq_of_lt (omega (arith, marks 0))) in
    let r : digits k v ≡ digits k (bits_of k ms) = sym (digits_mod k k v (omega arith)) ∙ (rw (low m k b)) in
    rw (bits-head k (m ∷ ms), d, r, digits-bits k ms (λ i. marks (suc i)), suc-sub-suc k (length ms))

-- a run's marks are all there
values-of-run : (m : ℕ) (ms : List ℕ) → m ≤ 1 → 15 ≤ run_of m ms → values_in (word_for ms) ≡ pad_to (taken_by ms) ms
values-of-run m ms b h =
    let k : ℕ = min (run_of m ms) 16383 in
    let w : ℕ = m * 16384 + k in
    let l : k < 16384 = omega arith in
    let v : w / 16384 % 2 ≡ m = rw (high m 14 l) (mod-eq_of_lt (omega arith)) in
    let z : k - length ms ≡ 0 = omega (arith, run-le m ms) in
    rw (word-run m ms h, taken-run m ms h, z, take-run m k ms (omega arith))
    (values-run w (omega arith) ∙ (rw (low m 14 l, v) (sym (append-nil (replicate k m)))))

values-of-vector : (ms : List ℕ) → Marks ms → ahead ms < 15 → values_in (word_for ms) ≡ pad_to (taken_by ms) ms
values-of-vector ms marks h =
    let w : ℕ = 32768 + bits_of 15 ms in
    let c : w % 32768 ≡ bits_of 15 ms = low 1 15 (bits_below 15 ms marks) in
    rw (word-vector ms h, taken-vector ms h)
    (digits-all w (omega arith) ∙ sym (digits_mod 15 15 w (omega arith)) ∙ ap (digits 15) c ∙ digits-bits 15 ms marks)

-- a run or a vector
by_kind : {P : Type 0} (ms : List ℕ) → (15 ≤ ahead ms → P) → (ahead ms < 15 → P) → P
by_kind ms run vector =
    either (leb 15 (ahead ms)) (λ t. run (leb-true 15 (ahead ms) t)) (λ t. vector (leb-false 15 (ahead ms) t))

pub values-word : (ms : List ℕ) → Marks ms → values_in (word_for ms) ≡ pad_to (taken_by ms) ms
values-word ms marks = by_kind ms (values-of-run (first_mark ms) ms (marks 0)) (values-of-vector ms marks)

pub word_below : (ms : List ℕ) → Marks ms → word_for ms < 65536
word_below ms marks =
    by_kind ms (λ h. omega (arith, word-run (first_mark ms) ms h, marks 0))
    (λ h. omega (arith, word-vector ms h, bits_below 15 ms marks))

pub covers-word : (ms : List ℕ) → Marks ms → covers_of (word_for ms) ≡ taken_by ms
covers-word ms marks =
    sym (length-values_in (word_for ms)) ∙ ap length (values-word ms marks)
    ∙ (simp (length-append, length-take, length-replicate) (omega arith))

-- zeros behind a list change no value
get_or-zeros : (n : ℕ) (l : List ℕ) (p : ℕ) → get_or (l ++ replicate n 0) p 0 ≡ get_or l p 0
get_or-zeros zero [] p = refl
get_or-zeros (suc n) [] zero = refl
get_or-zeros (suc n) [] (suc p) = get_or-zeros n [] p
get_or-zeros n (x ∷ l) zero = refl
get_or-zeros n (x ∷ l) (suc p) = get_or-zeros n l p

pub value-behind : (ms : List ℕ) → Marks ms → (i : ℕ) → length ms ≤ i → i < covers_of (word_for ms)
    → value_of (word_for ms) i ≡ 0
value-behind ms marks i h k =
    let l : length (take (taken_by ms) ms) ≤ i = omega (arith, length-take (taken_by ms) ms) in
    sym (values-at (word_for ms) i k) ∙ (rw (values-word ms marks, get_or-zeros, get_or-eq_default))

-- ---- all the words

-- words one after the other, where all the bytes are marks
pub by-marks : (P : List ℕ → List ℕ → Type 0) → P [] []
    → ((ms : List ℕ) → Marks ms → P (drop (taken_by ms) ms) (words_of (drop (taken_by ms) ms))
    → P ms (word_for ms ∷ words_of (drop (taken_by ms) ms)))
    → (ms : List ℕ) → Marks ms → P ms (words_of ms)
by-marks P none more =
    by-words (λ ms ws. Marks ms → P ms ws) (λ _. none)
    (λ ms some rest marks. more ms marks (rest (marks-drop (taken_by ms) ms marks)))

-- the first t, padded, and those behind them
pad-behind : (t n : ℕ) (ms : List ℕ)
    → pad_to t ms ++ (drop t ms ++ replicate n 0) ≡ ms ++ replicate (t - length ms + n) 0
pad-behind zero n ms = rw (zero-sub (length ms), zero-add n)
pad-behind (suc t) n [] = rw (sub-zero (suc t)) (replicate-append-replicate (suc t) n 0)
pad-behind (suc t) n (m ∷ ms) = rw (suc-sub-suc t (length ms), pad-behind t n ms)

-- the lengths tell how many zeros there are
pad-length : (n : ℕ) (ms vs : List ℕ) → vs ≡ ms ++ replicate n 0 → vs ≡ ms ++ replicate (length vs - length ms) 0
pad-length n ms vs e =
    let l : length vs ≡ length ms + n = ap length e ∙ (simp (length-append, length-replicate)) in
    let k : length vs - length ms ≡ n = omega arith in
    rw k e

pub values-words : (ms : List ℕ) → Marks ms
    → values_of (words_of ms) ≡ ms ++ replicate (length (values_of (words_of ms)) - length ms) 0
unfolding values_of
values-words =
    by-marks (λ ms ws. values_of ws ≡ ms ++ replicate (length (values_of ws) - length ms) 0) refl
    (λ ms marks rest. let n = length (values_of (words_of (drop (taken_by ms) ms))) - length (drop (taken_by ms) ms) in
    pad-length (taken_by ms - length ms + n) ms _ (cc (rest, values-word ms marks, pad-behind (taken_by ms) n ms)))

module _ (ms : List ℕ) (marks : Marks ms) where
  pub covers-mark : (p : ℕ) → get_or (values_of (words_of ms)) p 0 ≡ get_or ms p 0
  covers-mark p = rw (values-words ms marks, get_or-zeros)

  pub covers-behind : (p : ℕ) → length ms ≤ p → get_or (values_of (words_of ms)) p 0 ≡ 0
  covers-behind p h = covers-mark p ∙ get_or-eq_default ms 0 h

-- what holds of each next word holds of each word
module _ (P : ℕ → Type 0) (next : (ms : List ℕ) → Marks ms → P (word_for ms)) where
  each-cons : (w : ℕ) (ws : List ℕ) → P w → ((i : ℕ) → i < length ws → P (get_or ws i 0))
      → (i : ℕ) → i < suc (length ws) → P (get_or (w ∷ ws) i 0)
  each-cons w ws first rest zero h = first
  each-cons w ws first rest (suc i) h = rest i (omega arith)

  each_word : (ms : List ℕ) → Marks ms → (i : ℕ) → i < length (words_of ms) → P (get_or (words_of ms) i 0)
  each_word =
      by-marks (λ ms ws. (i : ℕ) → i < length ws → P (get_or ws i 0)) (λ i h. absurd (omega arith))
      (λ ms marks. each-cons (word_for ms) (words_of (drop (taken_by ms) ms)) (next ms marks))

pub words-cover : (ms : List ℕ) → Marks ms → (i : ℕ) → i < length (words_of ms) → 15 ≤ covers_of (get_or (words_of ms) i 0)
words-cover = each_word (λ w. 15 ≤ covers_of w) (λ ms marks. rw (covers-word ms marks) (taken-least ms))

pub words-clear : (ms : List ℕ) → Marks ms → has lost_run (words_of ms) ≡ false
words-clear ms marks =
    has-none lost_run (words_of ms)
    (λ i h e. absurd (let z : 15 ≤ covers_of 16384 = rw e at (words-cover ms marks i h) in omega arith))

pub words-below : (ms : List ℕ) → Marks ms → (i : ℕ) → i < length (words_of ms) → get_or (words_of ms) i 0 < 65536
words-below = each_word (λ w. w < 65536) word_below

-- and so at any index
pub words-under : (ms : List ℕ) → Marks ms → Under 65536 (words_of ms)
words-under ms marks i =
    either (ltb i (length (words_of ms))) (λ t. words-below ms marks i (ltb-true i (length (words_of ms)) t))
    (λ t. rw (get_or-eq_default (words_of ms) 0 (ltb-false i (length (words_of ms)) t)) (omega arith))
