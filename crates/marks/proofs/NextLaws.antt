-- The next word: a run or a vector. Assumes nothing.
--     next-run, next-vector         the word, and how many marks it takes
--     taken-of-run, taken-of-vector    the second alone
--     run-found-here                the run's length, found by going on from its fifteenth mark
use Prim.Native.Nat.{ℕ, ◌+◌, ◌*◌, ◌-◌, ◌≤◌, min}
use mathlib.Core.Path.{◌≡◌, sym, ◌∙◌}
use mathlib.Core.Bool.{true, false}
use mathlib.Core.List.{List}
use native.Mathlib.Omega.{arith}
use lib.ListN.{length, drop}
use borrow.Author.Tests.{leb-true, leb-false}
use Rattle.def_wire.specs.Bytes.{byte_at}
use Rattle.def_marks.specs.Marks.{bits_of, first_mark, ahead, is_run, run_length, word_for, taken_by}
use Rattle.marked.proofs.WordsLaws.{run_length_lem, word-run, taken-run, word-vector, taken-vector}
use Rattle.marks.specs.Runs.{Same, Ends}
use Rattle.marks.proofs.RunLaws.{first-here}
use Rattle.marks.proofs.SameLaws.{run-found}

module _ (ms : List ℕ) (at : ℕ) where
  -- the marks from a place on
  abbrev here : List ℕ
  here = drop at ms

  module _ (t : is_run (drop at ms) ≡ true) where
    long : 15 ≤ ahead here
    long = leb-true 15 (ahead here) t

    pub taken-of-run : {n : ℕ} → n ≡ run_length (drop at ms) → n ≡ taken_by (drop at ms)
    taken-of-run e = e ∙ run_length_lem here ∙ sym (taken-run (first_mark here) here long)

    pub next-run : {n : ℕ} → n ≡ run_length (drop at ms)
        → (byte_at ms at * 16384 + n ≡ word_for (drop at ms)) × (n ≡ taken_by (drop at ms))
    next-run e = (
      rw (← first-here ms at) (omega (arith, e, run_length_lem here, word-run (first_mark here) here long)),
      taken-of-run e,
    )

    pub run-found-here : (stop i to : ℕ) → stop ≡ at + min 16383 (length ms - at)
        → Same ms (byte_at ms at) (at + 15) i → Same ms (byte_at ms at) i to → Ends ms (byte_at ms at) stop to
        → to - at ≡ run_length (drop at ms)
    run-found-here stop i to e s u v =
        let f = first-here ms at in
        run-found ms (byte_at ms at) at stop i to (rw (← f) long) e s u v
        ∙ sym (run_length_lem here ∙ (rw f))

  module _ (f : is_run (drop at ms) ≡ false) where
    pub taken-of-vector : 15 ≡ taken_by (drop at ms)
    taken-of-vector = sym (taken-vector here (leb-false 15 (ahead here) f))

    pub next-vector : {bits : ℕ} → bits ≡ bits_of 15 (drop at ms)
        → (32768 + bits ≡ word_for (drop at ms)) × (15 ≡ taken_by (drop at ms))
    next-vector e = (rw e (sym (word-vector here (leb-false 15 (ahead here) f))), taken-of-vector)
