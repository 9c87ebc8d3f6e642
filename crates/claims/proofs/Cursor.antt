-- The number cursor by calls of any budgets lists what the list functions list. Assumes nothing.
use Rattle.std.specs.Prelude.{Ok, Err}
use Prim.Native.Nat.{ℕ, ◌≤◌, ◌<◌}
use mathlib.Core.Path.{◌≡◌, refl, sym, ap, ◌∙◌}
use mathlib.Core.List.{List, ◌++◌}
use native.Mathlib.Omega.{arith}
use lib.ListN.{length, take, drop}
use lib.Seq.{take-append_seam}
use Rattle.def_refusals.specs.Answers.{Or, on_fine, answer_of, Listed}
use Rattle.def_wire.specs.declared.Reading.TheVariants.{Standard}
use Rattle.def_wire.specs.declared.Rle.{Rle}
use Rattle.def_wire.specs.declared.Ranged.TheVariants.{Chunks}
use Rattle.def_wire.specs.declared.Kind.TheVariants.{Spans}
use Rattle.def_wire.specs.Packet.{view_of}
use Rattle.def_wire.specs.Block.{fields_at, check_of}
use Rattle.def_standard.specs.declared.Range.{Range}
use Rattle.def_standard.specs.Range.{range_of}
use Rattle.def_standard.specs.Standard.{standard_words, standard_numbers}
use Rattle.def_questions.specs.Questions.{numbers_shown}
use Rattle.def_questions.specs.Packets.{numbers_asked}
use Rattle.def_cursor.specs.declared.Cursor.{Cursor}
use Rattle.def_cursor.specs.declared.Stretch.{Stretch}
use Rattle.def_cursor.specs.Cursor.{start, taken_by, after_steps, listed_by, steps_left, stretch_of, advance_to, left_to}
use Rattle.def_cursor.specs.Cursor.{advance_fault}
use Rattle.def_cursor.specs.Cursor.{advance_of, stretch_filled, Stretched}
use Rattle.cursor.proofs.LegalLaws.{legal-start}
use Rattle.cursor.proofs.StepsLaws.{taken_none, listed-zero, taken-add, listed-add}
use Rattle.cursor.proofs.CursorLaws.{taken-least, all-numbers, rest-start}
use Rattle.cursor.proofs.AdvanceLaws.{range-fits}
use Rattle.claims.proofs.Taken.{shown-taken}
use Rattle.claims.specs.Cursor.{Calls, ended, called, CallsIn, ended-in, called-in, CursorLists, CursorListsIn}

-- ---- a listing call that was not refused

fine-taken : (out out' : List ℕ) (n : ℕ) (f : Or (Unit {0})) (l : List ℕ) → Listed (on_fine f (Ok l)) out (Ok n) out'
    → l ≡ take n out'
unfolding answer_of
fine-taken out out' n (Ok _) l p = shown-taken out out' n l p
fine-taken out out' n (Err x) l p = absurd (let e = p.answer in let z : ◌≡◌ {A = ℕ} 0 1 = cc in omega arith)

-- ---- calls on a view

moved-fine : (f : Or (Unit {0})) (u s : Stretch) (l out out' : List ℕ) → Ok s ≡ advance_to f u → out' ≡ left_to f l out
    → (s ≡ u) × (out' ≡ l ++ drop (length l) out)
moved-fine (Ok _) u s l out out' p q = (cc, q)
moved-fine (Err x) u s l out out' p q = absurd (let z : ◌≡◌ {A = ℕ} 0 1 = cc in omega arith)

module _ (a : Rle) (v : List ℕ) where
  abbrev g : Range
  g = range_of (fields_at v)

  abbrev ws : List ℕ
  ws = standard_words v

  -- a call that moved gives the stretch of its budget
  moved-stretch : (c : Cursor) (b : ℕ) (out out' : List ℕ) (s : Stretch) → Stretched a v c b out (Ok s) out'
      → (s ≡ stretch_of g ws c b) × (out' ≡ listed_by g ws b c ++ drop (length (listed_by g ws b c)) out)
  unfolding advance_of stretch_filled
  moved-stretch c b out out' s p =
      moved-fine (advance_fault a v c b (length out)) (stretch_of g ws c b) s (listed_by g ws b c) out out' p.answer
      p.filled

  -- calls one after the other are one stretch of all their budgets
  calls-sum : {c : Cursor} {budgets taken : ℕ} {l : List ℕ} → Calls a v c budgets taken l
      → (taken ≡ taken_by ws budgets c) × (l ≡ listed_by g ws budgets c)
  calls-sum (ended {c}) = (sym (taken_none ws c), sym (listed-zero ws c g))
  calls-sum (called {c} {budget} {budgets} {taken} {l} {out} {out'} {s} p r) =
      let m = moved-stretch c budget out out' s p in
      let k : s.next ≡ after_steps ws budget c = ap (λ (x : Stretch). x.next) m.0 in
      let j : s.taken ≡ taken_by ws budget c = ap (λ (x : Stretch). x.taken) m.0 in
      let n : s.listed ≡ length (listed_by g ws budget c) = ap (λ (x : Stretch). x.listed) m.0 in
      let h : take s.listed out' ≡ listed_by g ws budget c =
      rw (n, m.1) (take-append_seam (listed_by g ws budget c) (drop (length (listed_by g ws budget c)) out)) in
      let i = calls-sum r in
      let u : taken ≡ taken_by ws budgets (after_steps ws budget c) = i.0
      ∙ ap (λ (x : Cursor). taken_by ws budgets x) k in
      let w : l ≡ listed_by g ws budgets (after_steps ws budget c) = i.1
      ∙ ap (λ (x : Cursor). listed_by g ws budgets x) k in
      (rw (taken-add ws budgets budget c, j, u), rw (listed-add ws budgets g budget c, h, w))

  -- calls that took fewer steps than they were allowed list all numbers
  calls-numbers : {budgets taken : ℕ} {l : List ℕ} → Calls a v start budgets taken l → taken < budgets
      → l ≡ standard_numbers v
  calls-numbers {budgets} {taken} {l} p h =
      let i = calls-sum p in
      let e = legal-start ws in
      let enough : steps_left (drop 0 ws) 0 ≤ budgets = omega (arith, i.0, h, taken-least ws budgets start e) in
      i.1 ∙ all-numbers g (range-fits (fields_at v)) ws budgets start e enough
      ∙ rest-start g (range-fits (fields_at v)) ws

pub cursor-lists : CursorLists
unfolding numbers_shown
cursor-lists a v budgets taken l p h out out' n q =
    calls-numbers a v p h ∙ fine-taken out out' n (check_of Standard (Spans (Chunks a)) v) (standard_numbers v) q

-- ---- calls on a packet's block: its view is there, and the calls are calls on it

view-there : (s : List ℕ) (k : ℕ) (a : Rle) (out out' : List ℕ) (n : ℕ) (w : Or (List ℕ)) → view_of Standard s k ≡ w
    → Listed (numbers_asked Standard s k a) out (Ok n) out' → (P : Type 0)
    → ((v : List ℕ) → view_of Standard s k ≡ Ok v → P) → P
unfolding numbers_asked answer_of
view-there s k a out out' n (Ok v) e q P f = f v e
view-there s k a out out' n (Err x) e q P f =
    absurd (let d = rw e at q.answer in let z : ◌≡◌ {A = ℕ} 0 1 = cc in omega arith)

module _ (s : List ℕ) (k : ℕ) (a : Rle) (v : List ℕ) (e : view_of Standard s k ≡ Ok v) where
  calls-on-view : {c : Cursor} {budgets taken : ℕ} {l : List ℕ} → CallsIn s k a c budgets taken l
      → Calls a v c budgets taken l
  calls-on-view ended-in = ended
  calls-on-view (called-in p r) = called (record { answer = rw e at p.answer; filled = rw e at p.filled })
      (calls-on-view r)

pub cursor-lists-in : CursorListsIn
unfolding numbers_asked
cursor-lists-in s k a budgets taken l p h out out' n q =
    view-there s k a out out' n (view_of Standard s k) refl q (l ≡ take n out')
    (λ v e. cursor-lists a v budgets taken l (calls-on-view s k a v e p) h out out' n (rw e at q))
