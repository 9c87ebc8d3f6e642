-- One turn of the cursor's loop: all steps in the word at hand. Assumes nothing.
--     Going       from the cursor c, `left` steps lead where the whole budget leads from the first cursor, and add up
--                 with those that were taken
--     going_on    a turn
--     gone-end    the words have ended; gone-done: the budget is used up
use Prim.Native.Nat.{ℕ, ◌+◌, ◌-◌, min, ◌≤◌, ◌<◌}
use mathlib.Core.Path.{◌≡◌, refl, sym, ap, ◌∙◌}
use mathlib.Core.Bool.{true}
use mathlib.Core.List.{List, ◌++◌}
use native.Mathlib.Omega.{arith}
use lib.ListN.{length}
use Rattle.def_standard.specs.declared.Range.{Range}
use Rattle.def_standard.specs.Range.{circle, number_of}
use Rattle.ones.specs.Along.{along}
use Rattle.range.specs.Inside.{inside_count}
use Rattle.range.specs.Steps.{step_of}
use Rattle.laws.proofs.Filling.{Filling, done}
use Rattle.def_cursor.specs.declared.Cursor.{Cursor}
use Rattle.def_cursor.specs.Cursor.{steps_in, word_at, legal, taken_by, after_steps, listed_by}
use Rattle.cursor.specs.Steps.{places_in, moved_in, Gone}
use Rattle.cursor.proofs.LegalLaws.{legal-position, legal-place}
use Rattle.cursor.proofs.StepsLaws.{taken_none, after_none, listed-zero, taken-end, after-end, listed-end}
use Rattle.cursor.proofs.StepsLaws.{taken-add, after-add, listed-add}
use Rattle.cursor.proofs.WithinLaws.{taken-within, after-within, listed-within, legal-moved}
use Rattle.cursor.proofs.PlacesLaws.{numbers-places}

pub record Going (ws : List ℕ) (c₀ : Cursor) (budget : ℕ) (c : Cursor) (left : ℕ) : Type 0 where
  pub stands : legal ws c ≡ true
  pub low : left ≤ budget
  pub leads : after_steps ws left c ≡ after_steps ws budget c₀
  pub adds : budget - left + taken_by ws left c ≡ taken_by ws budget c₀

module _ {ws : List ℕ} {c₀ : Cursor} {budget : ℕ} where
  pub begin-going : legal ws c₀ ≡ true → Going ws c₀ budget c₀ budget
  begin-going e = record { stands = e; low = omega arith; leads = refl; adds = omega arith }

  module _ {c : Cursor} {left : ℕ} (f : Going ws c₀ budget c left) where
    module _ (h : c.word < length ws) (m : ℕ) (l : m ≤ left) (k : c.place + m ≤ steps_in (word_at ws c)) where
      abbrev next : Cursor
      next = moved_in (word_at ws c) m c

      -- m steps lead to the next cursor
      goes : after_steps ws m c ≡ next
      goes = after-within ws c.word h m c.place c.position (legal-position ws c f.stands)
          (legal-place ws c f.stands h) k

      all : m + (left - m) ≡ left
      all = omega arith

      pub going_on : Going ws c₀ budget next (left - m)
      going_on =
          let t : taken_by ws (m + (left - m)) c ≡ m + taken_by ws (left - m) next =
          taken-add ws (left - m) m c ∙ (rw (
            goes,
            taken-within ws c.word h m c.place c.position
                (legal-place ws c f.stands h) k,
          )) in
          let u : taken_by ws left c ≡ m + taken_by ws (left - m) next = rw all at t in
          record {
            stands = legal-moved ws c.word h m c.place c.position;
            low = omega (arith, f.low);
            leads = rw (← goes) (sym (after-add ws (left - m) m c) ∙ (rw all f.leads));
            adds = omega (arith, f.adds, f.low, u);
          }

      -- what the turn lists, and then the rest
      pub going-listed : (g : Range) → inside_count g ≤ circle
          → listed_by g ws left c ≡ along (step_of g.thinning) (number_of g c.position)
          (places_in (word_at ws c) c.place (min m (inside_count g - c.position))) ++ listed_by g ws (left - m) next
      going-listed g s =
          ap (λ (n : ℕ). listed_by g ws n c) (sym all)
          ∙ listed-add ws (left - m) g m c
          ∙ (rw (
            goes,
            listed-within ws c.word h g s m c.place c.position (legal-place ws c f.stands h) k,
            numbers-places g c.position (word_at ws c) c.place m,
          ))

    module _ (g : Range) {out₀ out : List ℕ} {n : ℕ} (fill : Filling (listed_by g ws budget c₀) out₀ out
        (listed_by g ws left c) n) where
      -- the words have ended
      pub gone-end : length ws ≤ c.word → Gone g ws c₀ budget out₀
          (record { next = c; taken = budget - left; listed = n }) out
      gone-end h =
          let d = done (listed-end ws c h g left) fill in
          let t : budget - left ≡ taken_by ws budget c₀ = omega (arith, f.adds, taken-end ws c h left) in
          record { answer = rw (← f.leads, after-end ws c h left, ← t, ← d.0); filled = d.1 }

      -- the budget is used up
      pub gone-done : left ≡ 0 → Gone g ws c₀ budget out₀ (record { next = c; taken = budget; listed = n }) out
      gone-done e =
          let d = done (ap (λ (k : ℕ). listed_by g ws k c) e ∙ listed-zero ws c g) fill in
          let z : taken_by ws left c ≡ 0 = rw e (taken_none ws c) in
          let t : budget ≡ taken_by ws budget c₀ = omega (arith, f.adds, z) in
          record { answer = rw (← f.leads, e, after_none ws c, ← t, ← d.0); filled = d.1 }
