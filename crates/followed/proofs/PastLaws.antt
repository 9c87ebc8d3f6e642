-- 19 on a state that bytes led to is 19 of all the bytes. Assumes bytes below 256.
--     past-reached     where no refusal stays
use Rattle.std.specs.Prelude.{Ok, Err}
use Prim.Native.Nat.{ℕ, ◌+◌, ◌-◌, ◌≤◌, ◌<◌}
use mathlib.Core.Path.{◌≡◌, refl, sym, ap, ap₂, ◌∙◌}
use mathlib.Core.Bool.{true, cond}
use mathlib.Core.List.{List, [], ◌∷◌, ◌++◌}
use native.Mathlib.Omega.{arith}
use lib.ListN.{length, take, length-append}
use lib.Seq.{take-append-add}
use lib.Dec.{ltb, leb, eqb}
use borrow.Author.Tests.{eqb-true, ltb-true, ltb-false, lt-ltb, le-ltb, le-leb, lt-leb}
use Rattle.def_refusals.specs.Answers.{Or}
use Rattle.laws.proofs.Tests.{either, and_false_r}
use Rattle.utils.proofs.BytesLaws.{Bytes}
use Rattle.def_refusals.specs.declared.Refusal.TheVariants.{PastEnd}
use Rattle.def_wire.specs.Bytes.{four}
use Rattle.def_wire.specs.Packet.{announced_of}
use Rattle.def_portions.specs.Events.{Course, need, head_fault}
use Rattle.def_portions.specs.Calls.{where_good, past_fault}
use Rattle.states.specs.declared.Portions.{Portions}
use Rattle.states.specs.Steps.{held_with, state, head, known, start, held_over, low32, good_length, where_fine}
use Rattle.states.specs.Steps.{fault_of, after}
use Rattle.states.specs.Call.{announced_by, taken_in, past_by, past_of}
use Rattle.followed.specs.Run.{run_of}
use Rattle.followed.proofs.ItemRun.{not-zero, item-kept}
use Rattle.followed.proofs.ValueLaws.{bytes-front}
use Rattle.followed.proofs.CheckLaws.{head-least, past-within}
use Rattle.followed.proofs.CourseRun.{behind_head, header-back, head-refused, head-after}
use Rattle.followed.proofs.GoingLaws.{asks, at-sender, Counts}
use Rattle.followed.proofs.TakenLaws.{going, Past, going-past}

-- 19, by the announced length and the bytes in all; where no length is known, none
abbrev past_where : ℕ → ℕ → Or (Unit {0})
past_where a n = cond (eqb a 0) (Ok tt) (past_by a n)

past_by_lem : (s : List ℕ) → 4 ≤ length s → past_fault s ≡ past_where (good_length s) (length s)
unfolding past_fault
past_by_lem s h = rw (le-ltb (length s) 4 h) (by (head_fault s) refl)
  where
    by : (f : Or (Unit {0})) → head_fault s ≡ f
        → where_good (head_fault s) (need (leb (length s) (announced_of s)) (PastEnd (announced_of s) (length s)))
        ≡ past_where (good_length s) (length s)
    by (Ok _) e = rw (e, not-zero (announced_of s) (omega arith))
    by (Err r) e = rw e

past-few : (s : List ℕ) → length s < 4 → past_fault s ≡ Ok tt
unfolding past_fault
past-few s h = rw (lt-ltb _ _ h)

-- bytes behind others are held behind them
held-append : (item h : ℕ) (x y : List ℕ) → held_over item (held_over item h x) y ≡ held_over item h (x ++ y)
unfolding held_over
held-append item h [] y = refl
held-append item h (b ∷ x) y = held-append item (held_with item h b) x y

past-of : (st : Portions) (x : List ℕ) → (announced_by st x ≡ 0 → eqb st.item head ≡ true)
    → past_of st x ≡ past_where (announced_by st x) (taken_in st + length x)
unfolding past_of
past-of st x h =
    either (eqb (announced_by st x) 0)
    (λ t. rw (t, h (eqb-true _ _ t)))
    (λ f. rw (f, and_false_r (eqb st.item head)))

-- four bytes read back
four-good : (s : List ℕ) → 4 ≤ length s → Bytes s
    → good_length (four (low32 (held_over head 0 (take 4 s)))) ≡ good_length s
unfolding head_fault
four-good [] h y = absurd (omega arith)
four-good (a ∷ []) h y = absurd (omega arith)
four-good (a ∷ b ∷ []) h y = absurd (omega arith)
four-good (a ∷ b ∷ c ∷ []) h y = absurd (omega arith)
four-good (a ∷ b ∷ c ∷ d ∷ x) h y =
    ap good_length (header-back a b c d x y)

-- fewer than four bytes before
module _ (b x : List ℕ) (h : length b < 4) where
  abbrev begun : Portions
  begun = state head (4 - length b) (held_over head 0 b) 0 0 (known 0 0 0 0 0)

  taken-early : taken_in begun ≡ length b
  unfolding taken_in
  taken-early = omega arith

  -- of these and the next, the first four
  first-four : b ++ take (4 - length b) x ≡ take 4 (b ++ x)
  first-four =
      let e : 4 ≡ length b + (4 - length b) = omega arith in
      sym (ap (λ (n : ℕ). take n (b ++ x)) e ∙ take-append-add b x (4 - length b))

  announced-early : Bytes (b ++ x) → 4 ≤ length (b ++ x) → announced_by begun x ≡ good_length (b ++ x)
  unfolding announced_by
  announced-early y l =
      let m : 4 - length b ≤ length x = omega (arith, length-append b x) in
      rw (le-leb _ _ m)
      (ap (λ (n : ℕ). good_length (four (low32 n))) (held-append head 0 b (take (4 - length b) x))
      ∙ ap (λ (v : List ℕ). good_length (four (low32 (held_over head 0 v)))) first-four
      ∙ four-good (b ++ x) l y)

  announced-few : length (b ++ x) < 4 → announced_by begun x ≡ 0
  unfolding announced_by
  announced-few l =
      let m : length x < 4 - length b = omega (arith, length-append b x) in
      rw (lt-leb _ _ m)

  past-early : Bytes (b ++ x) → past_of (after start b) x ≡ past_fault (b ++ x)
  unfolding start
  past-early y =
      rw (item-kept head 4 0 0 (known 0 0 0 0 0) b h)
      (past-of begun x (λ z. refl)
      ∙ (rw (taken-early, ← length-append b x)
      (either (ltb (length (b ++ x)) 4)
      (λ t. let l : length (b ++ x) < 4 = ltb-true _ _ t in rw (announced-few l) (sym (past-few (b ++ x) l)))
      (λ f. let l : 4 ≤ length (b ++ x) = ltb-false _ _ f in
      rw (announced-early y l) (sym (past_by_lem (b ++ x) l))))))

-- four bytes or more before
module _ (a b c d : ℕ) (z : List ℕ) (y : Bytes (a ∷ b ∷ c ∷ d ∷ z)) where
  abbrev s : List ℕ
  s = a ∷ b ∷ c ∷ d ∷ z

  -- where no refusal stays, the header is good
  head-good : fault_of (after start s) ≡ Ok tt → (f : Or (Unit {0})) → head_fault s ≡ f → head_fault s ≡ Ok tt
  unfolding run_of
  head-good e (Ok _) h = h
  head-good e (Err r) h =
      let o : fault_of (after start s) ≡ Err r = ap (λ (c : Course). c.fault) (head-refused a b c d z y r h) in
      let q : ◌≡◌ {A = ℕ} 0 1 = cc in absurd (omega arith)

  reached : fault_of (after start s) ≡ Ok tt → past_fault s ≡ Ok tt → head_fault s ≡ Ok tt
      → Past (announced_of s) (length s) (after start s)
  reached e p h =
      let n = announced_of s in
      let least : 8 ≤ n = head-least s h in
      let most : length s ≤ n = past-within s (omega arith) h p in
      let i = head-after a b c d z y h in
      let counts : Counts n 4 (behind_head s) =
      record { length = refl; all = omega arith; fours = omega arith; shape = at-sender refl refl } in
      let l : 4 + length z ≡ length s = omega arith in
      rw i (going-past n (length s) (after (behind_head s) z)
      (rw l at (going n z 4 (behind_head s) (asks (omega arith) counts) (omega arith) (rw i at e))))

  past-late : fault_of (after start s) ≡ Ok tt → past_fault s ≡ Ok tt → (x : List ℕ)
      → past_of (after start s) x ≡ past_fault (s ++ x)
  unfolding head_fault
  past-late e p x =
      let h = head-good e (head_fault s) refl in
      let r = reached e p h in
      let least : 8 ≤ announced_of s = head-least s h in
      let some : announced_by (after start s) x ≡ announced_of s = r.length x in
      past-of (after start s) x (λ z. absurd (omega (arith, some, z)))
      ∙ ap₂ past_where (r.length x ∙ sym (ap (λ (f : Or (Unit {0})). where_fine f (announced_of s)) h))
      (ap (λ (n : ℕ). n + length x) r.taken ∙ sym (length-append s x))
      ∙ sym (past_by_lem (s ++ x) (omega arith))

pub past-reached : (b x : List ℕ) → Bytes (b ++ x) → past_fault b ≡ Ok tt → fault_of (after start b) ≡ Ok tt
    → past_of (after start b) x ≡ past_fault (b ++ x)
past-reached [] x y p e = past-early [] x (omega arith) y
past-reached (a ∷ []) x y p e = past-early (a ∷ []) x (omega arith) y
past-reached (a ∷ b ∷ []) x y p e = past-early (a ∷ b ∷ []) x (omega arith) y
past-reached (a ∷ b ∷ c ∷ []) x y p e = past-early (a ∷ b ∷ c ∷ []) x (omega arith) y
past-reached (a ∷ b ∷ c ∷ d ∷ z) x y p e = past-late a b c d z (bytes-front (a ∷ b ∷ c ∷ d ∷ z) x y) e p x
