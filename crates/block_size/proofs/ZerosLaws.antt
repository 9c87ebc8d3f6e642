-- A record's words, and the zero words that a layout puts behind them. Assumes nothing.
--     length-words, ..        how many words and times a body has
--     last_word_lem, last_none    the last word
--     zeros-*                 how many zero words there are, with the tests that lead there as premises
use Prim.Native.Nat.{ℕ, ◌+◌, ◌*◌, ◌-◌, ◌/◌, ◌%◌, ◌≤◌, ◌<◌}
use mathlib.Core.Path.{◌≡◌, sym, ap, ◌∙◌}
use mathlib.Core.Bool.{false}
use mathlib.Core.List.{List}
use native.Mathlib.Omega.{arith}
use lib.ListN.{length, drop, length-drop, get_or-eq_default}
use lib.Dec.{eqb}
use borrow.Author.Tests.{eq-eqb, ne_eqb}
use Rattle.laws.proofs.Tests.{both}
use Rattle.def_jobs.specs.declared.Layout.{Layout}
use Rattle.def_jobs.specs.declared.Layout.TheVariants.{Plain, Careful}
use Rattle.def_jobs.specs.Jobs.{Job, le16, job_words, job_times}
use Rattle.def_jobs.specs.Layout.{is_odd, last_word, zeros_behind}
use Rattle.little_endian.proofs.LowLaws.{length-low16, length-low32, get_or-low16, le16-drop}

-- how many words and times a body has
pub length-words : (j : Job) → length (job_words j) ≡ (length j.body - 10) / 2
length-words j = omega (arith, length-low16 (drop 10 j.body), length-drop 10 j.body)

pub length-times : (j : Job) → length (job_times j) ≡ (length j.body - 10) / 4
length-times j = omega (arith, length-low32 (drop 10 j.body), length-drop 10 j.body)

-- as they are counted from the bytes behind the fields
pub count-words : (j : Job) (left : ℕ) → left ≡ length j.body - 10 → left / 2 ≡ length (job_words j)
count-words j left e = rw e (sym (length-words j))

-- the last word is the number of its two bytes; without words it counts as 0
pub last_word_lem : (j : Job) (n : ℕ) → n ≡ length (job_words j) → (n ≡ 0 → ⊥)
    → last_word (job_words j) ≡ le16 j.body (n * 2 + 8)
last_word_lem j n e h =
    let rest = drop 10 j.body in
    let last = length (job_words j) - 1 in
    let i : last < length rest / 2 = omega (arith, length-low16 rest) in
    let k : 10 + 2 * last ≡ n * 2 + 8 = omega arith in
    get_or-low16 rest last i ∙ le16-drop 10 j.body (2 * last) ∙ ap (le16 j.body) k

pub last_none : (ws : List ℕ) (n : ℕ) → n ≡ length ws → n ≡ 0 → last_word ws ≡ 0
last_none ws n e h = get_or-eq_default ws 0 (omega arith)

module _ (ws : List ℕ) (n : ℕ) (e : n ≡ length ws) where
  pub zeros-odd : (layout : Layout) → n % 2 ≡ 1 → 1 ≡ zeros_behind layout ws
  unfolding zeros_behind
  zeros-odd Plain h = rw (eq-eqb (length ws % 2) 1 (rw e at h))
  zeros-odd Careful h = rw (eq-eqb (length ws % 2) 1 (rw e at h))

  module _ (layout : Layout) (even : n % 2 ≡ 1 → ⊥) where
    not-odd : is_odd ws ≡ false
    not-odd = ne_eqb (length ws % 2) 1 (rw e at even)

    pub zeros-plain : layout ≡ Plain → 0 ≡ zeros_behind layout ws
    unfolding zeros_behind
    zeros-plain l = rw (l, not-odd)

    pub zeros-zero : layout ≡ Careful → last_word ws ≡ 0 → 0 ≡ zeros_behind layout ws
    unfolding zeros_behind
    zeros-zero l z = rw (l, not-odd, eq-eqb _ _ z)

    pub zeros-two : layout ≡ Careful → (last_word ws ≡ 0 → ⊥) → 2 ≡ zeros_behind layout ws
    unfolding zeros_behind
    zeros-two l z = rw (l, not-odd, ne_eqb _ _ z)

pub zeros-most : (ws : List ℕ) (layout : Layout) → zeros_behind layout ws ≤ 2
unfolding zeros_behind
zeros-most ws Plain = both (λ (n : ℕ). n ≤ 2) (is_odd ws) (λ _. omega arith) (λ _. omega arith)
zeros-most ws Careful =
    both (λ (n : ℕ). n ≤ 2) (is_odd ws) (λ _. omega arith)
    (λ _. both (λ (n : ℕ). n ≤ 2) (eqb (last_word ws) 0) (λ _. omega arith) (λ _. omega arith))
