-- Units of so many bytes in a row, up to the block's end: words, times, entries. Assumes bytes below 256.
--     Units      units of n bytes, each begun by an item; `at p` is what is known where the unit at position p begins
--     units      as many as the block has: what they list as far as their bytes have come, and then what is behind
use Prim.Native.Nat.{ℕ, zero, suc, ◌+◌, ◌*◌, ◌-◌, ◌≤◌, ◌<◌}
use mathlib.Core.Path.{◌≡◌, refl, sym, ap, ◌∙◌}
use mathlib.Core.Bool.{false}
use mathlib.Core.List.{List, [], ◌++◌}
use native.Mathlib.Omega.{arith}
use lib.ListN.{length, take, drop, take-append-drop}
use lib.Seq.{length-take-le, take_all, take-add}
use lib.Dec.{ltb, eqb}
use borrow.Author.Tests.{ltb-true, ltb-false}
use Rattle.laws.proofs.Tests.{either}
use Rattle.utils.proofs.BytesLaws.{Bytes}
use Rattle.def_portions.specs.declared.Event.{Event}
use Rattle.def_portions.specs.Events.{Course, quiet, then}
use Rattle.states.specs.declared.Known.{Known}
use Rattle.states.specs.Steps.{state, over, opened}
use Rattle.followed.specs.Run.{run_of, opening, ending}
use Rattle.followed.proofs.ItemRun.{then-then}
use Rattle.followed.proofs.BehindRun.{ending-more, ending-open, opened-item, opened-none}
use Rattle.followed.proofs.ValueLaws.{bytes_take, bytes_drop}

-- what their bytes list comes before a course, and may end it
pub record Units (item size n : ℕ) (at : ℕ → Known → Type 0) (lists : ℕ → List ℕ → Course → Course) : Type 0 where
  pub inner : eqb item over ≡ false
  pub some : 0 < n
  -- what a unit's bytes show, where the next one stands, and what is known there
  pub shown : ℕ → List ℕ → Course → Course
  pub past : ℕ → List ℕ → ℕ
  pub moved : Known → List ℕ → Known
  pub kept : (k : Known) (bs : List ℕ) → (moved k bs).announced ≡ k.announced
  -- fewer bytes show and list nothing
  pub short : (p : ℕ) (bs : List ℕ) → length bs < n → (c : Course) → lists p bs c ≡ c
  pub begun : (k : Known) (rest behind : ℕ) (bs : List ℕ) → length bs < n
      → run_of (state item size 0 (n + rest - size) behind k) bs ≡ quiet
  -- as many show what they list
  pub split : (p : ℕ) (bs x : List ℕ) → length bs ≡ n → (c : Course)
      → lists p (bs ++ x) c ≡ shown p bs (lists (past p bs) x c)
  pub passes : (p : ℕ) (k : Known) → at p k → (bs : List ℕ) → length bs ≡ n → Bytes bs → at (past p bs) (moved k bs)
  pub whole : (p : ℕ) (k : Known) → at p k → (bs : List ℕ) → length bs ≡ n → Bytes bs
      → (rest behind : ℕ) (x : List ℕ)
      → run_of (state item size 0 (n + rest - size) behind k) (bs ++ x)
      ≡ shown p bs (opening (opened (moved k bs) rest behind item size) x)

-- where they list events and end nothing
pub listed-split : (a b : List Event) {es : List Event} → es ≡ a ++ b → (c : Course) → then es c ≡ then a (then b c)
listed-split a b e c = ap (λ (l : List Event). then l c) e ∙ sym (then-then a b c)

module _ {item size n : ℕ} {at : ℕ → Known → Type 0} {lists : ℕ → List ℕ → Course → Course}
    (u : Units item size n at lists) where
  -- one unit, or a part of it, and then the others
  module _ (p : ℕ) (k : Known) (g : at p k) (rest behind : ℕ) where
    part : (bs : List ℕ) → length bs < n
        → opening (opened k (n + rest) behind item size) bs
        ≡ lists p (take (n + rest) bs) (ending k.announced (n + rest) behind bs)
    part bs h =
        let s = u.some in
        opened-item k (n + rest) behind item size bs u.inner (omega arith) ∙ u.begun k rest behind bs h
        ∙ (rw (take_all (n + rest) bs (omega arith), u.short p bs h (ending k.announced (n + rest) behind bs))
        (sym (ending-open k.announced (n + rest) behind bs (omega arith))))

    more : (bs x : List ℕ) → length bs ≡ n → Bytes bs
        → opening (opened (u.moved k bs) rest behind item size) x
        ≡ lists (u.past p bs) (take rest x) (ending (u.moved k bs).announced rest behind x)
        → opening (opened k (n + rest) behind item size) (bs ++ x)
        ≡ lists p (bs ++ take rest x) (ending k.announced (n + rest) behind (bs ++ x))
    more bs x e y r =
        let s = u.some in
        opened-item k (n + rest) behind item size (bs ++ x) u.inner (omega arith)
        ∙ u.whole p k g bs e y rest behind x
        ∙ ap (u.shown p bs) r
        ∙ sym (u.split p bs (take rest x) e (ending (u.moved k bs).announced rest behind x))
        ∙ (rw (u.kept k bs, ending-more k.announced n rest behind bs x e))

  pub units : (m p : ℕ) (k : Known) → at p k → (behind : ℕ) (bs : List ℕ) → Bytes bs
      → opening (opened k (m * n) behind item size) bs
      ≡ lists p (take (m * n) bs) (ending k.announced (m * n) behind bs)
  units zero p k g behind bs y =
      let e : 0 * n ≡ 0 = omega arith in
      rw (e, u.short p [] u.some (ending k.announced 0 behind bs)) (opened-none k 0 behind item size bs refl)
  units (suc m) p k g behind bs y =
      let e : suc m * n ≡ n + m * n = omega arith in
      rw e
      (either (ltb (length bs) n)
      (λ t. part p k g (m * n) behind bs (ltb-true _ _ t))
      (λ f. let h : n ≤ length bs = ltb-false _ _ f in
      let b = take n bs in
      let x = drop n bs in
      let l : length b ≡ n = length-take-le n bs h in
      let z : Bytes b = bytes_take n bs y in
      let r = units m (u.past p b) (u.moved k b) (u.passes p k g b l z) behind x (bytes_drop n bs y) in
      rw (take-add n (m * n) bs) (rw (take-append-drop n bs) at (more p k g (m * n) behind b x l z r))))
