-- Equal marks between two places (specs/Runs). Assumes nothing.
--     same_more                some more of them
--     run-found                the run from a place on
use Prim.Native.Nat.{ℕ, ◌+◌, ◌-◌, ◌≤◌, ◌<◌, min}
use mathlib.Core.Path.{◌≡◌, sym, ◌∙◌}
use mathlib.Core.List.{List}
use native.Mathlib.Omega.{arith}
use lib.ListN.{length, get_or, drop, length-drop}
use lib.Seq.{get_or-drop}
use lib.Dec.{ltb}
use borrow.Author.Tests.{ltb-true, ltb-false}
use Rattle.laws.proofs.Tests.{either}
use Rattle.def_wire.specs.Bytes.{byte_at}
use Rattle.def_marks.specs.Marks.{run_of}
use Rattle.marked.proofs.RunLaws.{run-le, run-each, run-reach, run-stop}
use Rattle.marks.specs.Runs.{Same, Ends}

module _ (ms : List ℕ) (m : ℕ) where
  -- some more marks are m
  pub same_more : (from to k : ℕ) → Same ms m from to → ((j : ℕ) → j < k → byte_at ms (to + j) ≡ m)
      → Same ms m from (to + k)
  same_more from to k s more =
      record {
        order = omega (arith, s.order);
        each = λ j a b.
            either (ltb j to) (λ t. s.each j a (ltb-true j to t))
            (λ t. let h : to ≤ j = ltb-false j to t in
            let e : to + (j - to) ≡ j = omega (arith, h) in
            rw (← e) (more (j - to) (omega (arith, h, b))));
      }

  -- the run from a place on, found by going on from its fifteenth mark
  pub run-found : (at stop i to : ℕ) → 15 ≤ run_of m (drop at ms) → stop ≡ at + min 16383 (length ms - at)
      → Same ms m (at + 15) i → Same ms m i to → Ends ms m stop to → to - at ≡ min (run_of m (drop at ms)) 16383
  run-found at stop i to h e s t u =
      let l : List ℕ = drop at ms in
      let n = length-drop at ms in
      let most = run-le m l in
      let each : (j : ℕ) → j < to - at → get_or l j 0 ≡ m =
      λ j b. either (ltb j 15) (λ c. run-each m l j (omega (arith, h, ltb-true j 15 c)))
      (λ c. let d = ltb-false j 15 c in
      get_or-drop at ms j 0
      ∙ either (ltb (at + j) i) (λ x. s.each (at + j) (omega (arith, d)) (ltb-true (at + j) i x))
      (λ x. t.each (at + j) (ltb-false (at + j) i x) (omega (arith, b)))) in
      let reach : to - at ≤ run_of m l =
      run-reach m (to - at) l (omega (arith, n, e, u.within, s.order, t.order)) each in
      either (ltb to stop)
      (λ c. let b = ltb-true to stop c in
      let k : at + (to - at) ≡ to = omega (arith, s.order, t.order) in
      let stops = run-stop m (to - at) l (λ x. u.other b (sym (get_or-drop at ms (to - at) 0 ∙ (rw k)) ∙ x)) in
      omega (arith, reach, stops, e, b, n, most))
      (λ c. omega (arith, reach, ltb-false to stop c, u.within, e, n, most))
