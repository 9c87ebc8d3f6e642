-- The words, times and entries of a record's body, written as bytes and read back. Assumes nothing.
--     under-low16, under-low32                     a body's numbers, and their bounds
--     words16-bytes, words32-behind, ..            their bytes read back, with more bytes behind them and without
--     block_words, numbers-behind, words-even      a block's words: the record's and zero words, which show nothing
--     clear_behind                                 none of them is a run of no length, where none of the record's is
use Prim.Native.Nat.{ℕ, zero, suc, ◌+◌, ◌*◌, ◌%◌, ◌<◌}
use mathlib.Core.Path.{◌≡◌, refl, ap, ◌∙◌}
use mathlib.Core.Bool.{false}
use mathlib.Core.List.{List, [], ◌∷◌, ◌++◌, append-nil}
use native.Mathlib.Nat.{add_comm}
use native.Mathlib.Omega.{arith}
use lib.ListN.{length, replicate, length-append, length-replicate}
use lib.Arith.{digits_lt}
use lib.Dec.{lit<, eqb}
use borrow.Author.Tests.{eqb-true, eqb-false}
use Rattle.laws.proofs.Tests.{both}
use Rattle.def_wire.specs.Bytes.{pair_up, two, four, words16, words32}
use Rattle.def_wire.specs.Block.{lost_run, has}
use Rattle.def_standard.specs.declared.Range.{Range}
use Rattle.def_standard.specs.Chunks.{values_in}
use Rattle.def_standard.specs.Standard.{values_of, numbers_from, numbers_of}
use Rattle.def_jobs.specs.declared.Layout.{Layout}
use Rattle.def_jobs.specs.declared.Layout.TheVariants.{Plain, Careful}
use Rattle.def_jobs.specs.Jobs.{pair_low, low16, low32}
use Rattle.def_jobs.specs.Layout.{bytes_of, is_odd, last_word, zeros_behind, words_bytes}
use Rattle.utils.proofs.BytesLaws.{Bytes, words16-two, words32-four}
use Rattle.utils.proofs.ClearLaws.{has-append, has-zeros}
use Rattle.little_endian.proofs.LowLaws.{length-bytes_of}
use Rattle.written.proofs.Lists.{Under}

-- ---- a body's numbers

under-pair_low : (b : ℕ) (s : List ℕ) → 0 < b * b → Under b s → Under (b * b) (pair_low b s)
unfolding pair_low
under-pair_low b [] p h i = p
under-pair_low b (x ∷ []) p h i = p
under-pair_low b (x ∷ y ∷ s) p h zero = rw (add_comm x (y * b)) (digits_lt (h 1) (h 0))
under-pair_low b (x ∷ y ∷ s) p h (suc i) = under-pair_low b s p (λ k. h (suc (suc k))) i

pub under-low16 : (s : List ℕ) → Bytes s → Under 65536 (low16 s)
under-low16 s h = under-pair_low 256 s (lit< tt) h

pub under-low32 : (s : List ℕ) → Bytes s → Under 4294967296 (low32 s)
under-low32 s h = under-pair_low 65536 (low16 s) (lit< tt) (under-low16 s h)

-- ---- read back

pub words16-bytes : (ws rest : List ℕ) → Under 65536 ws → words16 (bytes_of two ws ++ rest) ≡ ws ++ words16 rest
words16-bytes [] rest h = refl
words16-bytes (w ∷ ws) rest h =
    words16-two w (bytes_of two ws ++ rest) (h 0)
    ∙ ap (λ (l : List ℕ). w ∷ l) (words16-bytes ws rest (λ i. h (suc i)))

pub words32-behind : (ts rest : List ℕ) → Under 4294967296 ts
    → words32 (bytes_of four ts ++ rest) ≡ ts ++ words32 rest
words32-behind [] rest h = refl
words32-behind (t ∷ ts) rest h =
    words32-four t (bytes_of four ts ++ rest) (h 0)
    ∙ ap (λ (l : List ℕ). t ∷ l) (words32-behind ts rest (λ i. h (suc i)))

pub words32-bytes : (ts : List ℕ) → Under 4294967296 ts → words32 (bytes_of four ts) ≡ ts
unfolding pair_up
words32-bytes ts h = rw (append-nil (bytes_of four ts), append-nil ts) at (words32-behind ts [] h)

-- ---- zero words behind

words16-zeros : (z : ℕ) → words16 (replicate (2 * z) 0) ≡ replicate z 0
unfolding pair_up
words16-zeros zero = refl
words16-zeros (suc z) =
    let e : 2 * suc z ≡ suc (suc (2 * z)) = omega arith in rw e (ap (λ (l : List ℕ). 0 ∷ l) (words16-zeros z))

-- a block's words: the record's, and the zero words behind them
pub block_words : (layout : Layout) (ws : List ℕ) → Under 65536 ws
    → words16 (words_bytes layout ws) ≡ ws ++ replicate (zeros_behind layout ws) 0
block_words layout ws h =
    words16-bytes ws (replicate (2 * zeros_behind layout ws) 0) h
    ∙ ap (λ (l : List ℕ). ws ++ l) (words16-zeros (zeros_behind layout ws))

values-zeros : (z : ℕ) → values_of (replicate z 0) ≡ []
unfolding values_of values_in
values-zeros zero = refl
values-zeros (suc z) = values-zeros z

values-behind : (ws : List ℕ) (z : ℕ) → values_of (ws ++ replicate z 0) ≡ values_of ws
unfolding values_of
values-behind [] z = values-zeros z
values-behind (w ∷ ws) z = ap (λ (l : List ℕ). values_in w ++ l) (values-behind ws z)

-- no run of ones of no length, where the record has none
pub clear_behind : (layout : Layout) (ws : List ℕ) → Under 65536 ws → has lost_run ws ≡ false
    → has lost_run (words16 (words_bytes layout ws)) ≡ false
clear_behind layout ws h c =
    let z = zeros_behind layout ws in
    ap (has lost_run) (block_words layout ws h) ∙ has-append lost_run ws (replicate z 0) ∙ rw c (has-zeros z)

-- they show what the record's words show
pub numbers-behind : (layout : Layout) (g : Range) (ws : List ℕ) → Under 65536 ws
    → numbers_of g (words16 (words_bytes layout ws)) ≡ numbers_of g ws
unfolding numbers_from
numbers-behind layout g ws h = rw (block_words layout ws h, values-behind ws (zeros_behind layout ws))

-- and are whole 32-bit words
zeros-even : (layout : Layout) (ws : List ℕ) → (length ws + zeros_behind layout ws) % 2 ≡ 0
unfolding zeros_behind
zeros-even Plain ws =
    both (λ (z : ℕ). (length ws + z) % 2 ≡ 0) (is_odd ws) (λ t. omega (arith, eqb-true (length ws % 2) 1 t))
    (λ f. omega (arith, eqb-false (length ws % 2) 1 f))
zeros-even Careful ws =
    both (λ (z : ℕ). (length ws + z) % 2 ≡ 0) (is_odd ws) (λ t. omega (arith, eqb-true (length ws % 2) 1 t))
    (λ f. both (λ (z : ℕ). (length ws + z) % 2 ≡ 0) (eqb (last_word ws) 0)
    (λ _. omega (arith, eqb-false (length ws % 2) 1 f)) (λ _. omega (arith, eqb-false (length ws % 2) 1 f)))

pub words-even : (layout : Layout) (ws : List ℕ) → length (words_bytes layout ws) % 4 ≡ 0
words-even layout ws =
    omega (
      arith,
      length-append (bytes_of two ws) (replicate (2 * zeros_behind layout ws) 0),
      length-bytes_of two 2 (λ x. refl) ws,
      length-replicate {A = ℕ} (2 * zeros_behind layout ws) 0,
      zeros-even layout ws,
    )
