-- Whether fifteen marks are equal, told by four loads. Assumes nothing.
--     loads_run, not-run     exactly where each load is four times the first mark
--     last-load              and so told by the last one
--     short-run              never where fewer are left
--     run_room               a run does not go past the end
use Prim.Native.Nat.{ℕ, ◌+◌, ◌*◌, ◌-◌, ◌≤◌, ◌<◌}
use mathlib.Core.Path.{◌≡◌, sym, ◌∙◌}
use mathlib.Core.Bool.{true, false}
use mathlib.Core.List.{List}
use native.Mathlib.Omega.{arith}
use lib.ListN.{length, get_or, drop, length-drop}
use lib.Seq.{get_or-drop}
use lib.Dec.{ltb, eqb}
use borrow.Author.Tests.{leb-true, le-leb, lt-leb, ltb-true, ltb-false, eqb-true, eqb-false}
use Rattle.laws.proofs.Tests.{either}
use Rattle.def_wire.specs.Bytes.{byte_at, be32}
use Rattle.def_marks.specs.Marks.{first_mark, ahead, is_run, run_of}
use Rattle.marked.specs.Marked.{Marks}
use Rattle.marked.proofs.RunLaws.{run-le, run-each, run-reach}
use Rattle.marks.proofs.FourLaws.{four_same, same-four}

module _ (ms : List ℕ) (at : ℕ) where
  pub first-here : first_mark (drop at ms) ≡ byte_at ms at
  first-here = let z : at + 0 ≡ at = omega arith in get_or-drop at ms 0 0 ∙ (rw z)

  -- a run, in places
  run-here : is_run (drop at ms) ≡ true → 15 ≤ run_of (byte_at ms at) (drop at ms)
  run-here t = rw (← first-here) (leb-true 15 (ahead (drop at ms)) t)

  pub run_room : is_run (drop at ms) ≡ true → at + 15 ≤ length ms
  run_room t = omega (arith, run-here t, run-le (byte_at ms at) (drop at ms), length-drop at ms)

  pub short-run : length ms - at < 15 → is_run (drop at ms) ≡ false
  short-run h =
      lt-leb 15 (ahead (drop at ms)) (omega (arith, h, run-le (first_mark (drop at ms)) (drop at ms), length-drop at ms))

  -- a load of a run
  run-load : is_run (drop at ms) ≡ true → (j : ℕ) → j + 4 ≤ 15 → be32 ms (at + j) ≡ byte_at ms at * 16843009
  run-load t j h =
      same-four ms (at + j) (byte_at ms at)
      (λ i k. let e : at + j + i ≡ at + (j + i) = omega arith in
      rw (e, ← get_or-drop at ms (j + i) 0)
      (run-each (byte_at ms at) (drop at ms) (j + i) (omega (arith, run-here t, h, k))))

  pub not-run : (j : ℕ) → j + 4 ≤ 15 → (be32 ms (at + j) ≡ byte_at ms at * 16843009 → ⊥) → is_run (drop at ms) ≡ false
  not-run j h other = either (is_run (drop at ms)) (λ t. absurd (other (run-load t j h))) (λ f. f)

  pub not-run-first : (be32 ms at ≡ byte_at ms at * 16843009 → ⊥) → is_run (drop at ms) ≡ false
  not-run-first other = let z : at + 0 ≡ at = omega arith in not-run 0 (omega arith) (λ e. other (rw z at e))

  module _ (marks : Marks ms) where
    -- a load of four marks that are equal to the first
    equal-in : (j : ℕ) → be32 ms (at + j) ≡ byte_at ms at * 16843009 → (i : ℕ) → j ≤ i → i < j + 4
        → get_or (drop at ms) i 0 ≡ byte_at ms at
    equal-in j e i a b =
        let k : at + i ≡ at + j + (i - j) = omega (arith, a) in
        get_or-drop at ms i 0
        ∙ (rw k (four_same ms (at + j) marks (byte_at ms at) (marks at) e (i - j) (omega (arith, a, b))))

    pub loads_run : at + 15 ≤ length ms → be32 ms at ≡ byte_at ms at * 16843009
        → be32 ms (at + 4) ≡ byte_at ms at * 16843009 → be32 ms (at + 8) ≡ byte_at ms at * 16843009
        → be32 ms (at + 11) ≡ byte_at ms at * 16843009 → is_run (drop at ms) ≡ true
    loads_run h a b c d =
        let z : at + 0 ≡ at = omega arith in
        let each : (i : ℕ) → i < 15 → get_or (drop at ms) i 0 ≡ byte_at ms at =
        λ i l. either (ltb i 4) (λ t. equal-in 0 (rw z a) i (omega arith) (ltb-true i 4 t))
        (λ f. let p = ltb-false i 4 f in
        either (ltb i 8) (λ t. equal-in 4 b i p (ltb-true i 8 t))
        (λ g. let q = ltb-false i 8 g in
        either (ltb i 12) (λ t. equal-in 8 c i q (ltb-true i 12 t))
        (λ k. equal-in 11 d i (omega (arith, ltb-false i 12 k)) (omega (arith, l))))) in
        let r = run-reach (byte_at ms at) 15 (drop at ms) (omega (arith, h, length-drop at ms)) each in
        le-leb 15 (ahead (drop at ms)) (rw first-here r)

    -- the last load tells
    pub last-load : {x y : ℕ} → at + 15 ≤ length ms → be32 ms at ≡ byte_at ms at * 16843009
        → be32 ms (at + 4) ≡ byte_at ms at * 16843009 → be32 ms (at + 8) ≡ byte_at ms at * 16843009
        → x ≡ be32 ms (at + 11) → y ≡ byte_at ms at * 16843009 → eqb x y ≡ is_run (drop at ms)
    last-load {x} {y} h a b c p q =
        either (eqb x y) (λ t. t ∙ sym (loads_run h a b c (sym p ∙ eqb-true x y t ∙ q)))
        (λ f. f ∙ sym (not-run 11 (omega arith) (λ e. eqb-false x y f (p ∙ e ∙ sym q))))
