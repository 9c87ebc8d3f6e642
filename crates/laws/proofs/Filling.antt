-- A list on its way into a slice, stored one by one or several at once, or only counted.
--     Storing l₀ at whole l rest n     to store rest in l from n on comes to storing the whole in l₀ from at on
--     Filling whole l₀ l rest n        the same from the front on
--     Counting whole rest n            n of the whole are counted, and the rest is still to come
use Prim.Native.Nat.{ℕ, ◌+◌, ◌≤◌, ◌<◌}
use mathlib.Core.Path.{◌≡◌, refl, sym, ap, ◌∙◌}
use mathlib.Core.List.{List, [], ◌∷◌, ◌++◌}
use native.Mathlib.Omega.{arith}
use lib.ListN.{length, set, length-append}
use lib.Seq.{sets}
use Rattle.laws.specs.Stores.{Wrote, Filled}
use Rattle.laws.proofs.Stores.{sets-append, same, filled}

pub record Storing (l₀ : List ℕ) (at : ℕ) (whole l rest : List ℕ) (n : ℕ) : Type 0 where
  pub stored : sets l n rest ≡ sets l₀ at whole
  pub count : n + length rest ≡ at + length whole
  pub same : length l ≡ length l₀
  pub room : at + length whole ≤ length l₀

abbrev pub Filling : List ℕ → List ℕ → List ℕ → List ℕ → ℕ → Type 0
Filling whole l₀ l rest n = Storing l₀ 0 whole l rest n

module _ {l₀ : List ℕ} {at : ℕ} {whole : List ℕ} where
  pub start : at + length whole ≤ length l₀ → Storing l₀ at whole l₀ whole at
  start h = record { stored = refl; count = refl; same = refl; room = h }

  -- what is still to come, said otherwise
  pub skip : {l rest rest' : List ℕ} {n : ℕ} → rest ≡ rest' → Storing l₀ at whole l rest n
      → Storing l₀ at whole l rest' n
  skip e f = rw (← e) f

  -- the same for a slice and an index that are known by equations, as where the arms of a branch have met
  pub moved : {l l' rest : List ℕ} {n n' : ℕ} → l' ≡ l → n' ≡ n → Storing l₀ at whole l rest n
      → Storing l₀ at whole l' rest n'
  moved e k f = rw (e, k) f

  -- there is room for as many as come next
  pub room_for : (xs rest' : List ℕ) {l rest : List ℕ} {n : ℕ} → rest ≡ xs ++ rest' → Storing l₀ at whole l rest n
      → n + length xs ≤ length l
  room_for xs rest' e f = omega (arith, ap length e ∙ length-append xs rest', f.count, f.room, f.same)

  -- the next ones were stored
  pub wrote : {l l' xs rest rest' : List ℕ} {n n' : ℕ} → rest ≡ xs ++ rest' → Wrote l n xs l' n'
      → Storing l₀ at whole l rest n → Storing l₀ at whole l' rest' n'
  wrote {l} {l'} {xs} {rest} {rest'} {n} {n'} e w f =
      record {
        stored = rw w.stored (sets-append xs rest' l n n' w.past ∙ ap (sets l n) (sym e) ∙ f.stored);
        count = omega (arith, ap length e ∙ length-append xs rest', w.past, f.count);
        same = same w ∙ f.same;
        room = f.room;
      }

  -- one was, and there was room for it
  module _ {l rest rest' : List ℕ} {n x : ℕ} (e : rest ≡ x ∷ rest') (f : Storing l₀ at whole l rest n) where
    pub within : n < length l
    within = omega (arith, ap length e)

    pub put : Storing l₀ at whole (set l n x) rest' (n + 1)
    put = wrote {xs = x ∷ []} e (record { stored = refl; past = refl }) f

  -- nothing is to come
  pub ended : {l rest : List ℕ} {n : ℕ} → rest ≡ [] → Storing l₀ at whole l rest n → Wrote l₀ at whole l n
  ended {l} {rest} {n} e f =
      record { stored = ap (sets l n) (sym e) ∙ f.stored; past = omega (arith, ap length e, f.count) }

module _ {whole l₀ : List ℕ} where
  pub done : {l rest : List ℕ} {n : ℕ} → rest ≡ [] → Filling whole l₀ l rest n → Filled whole l₀ n l
  done e f = filled (omega (arith, f.room)) (ended e f)

  -- the last ones were stored
  pub wrote-last : {l l' xs rest : List ℕ} {n n' : ℕ} → rest ≡ xs ++ [] → Wrote l n xs l' n'
      → Filling whole l₀ l rest n → Filled whole l₀ n' l'
  wrote-last e w f = done refl (wrote e w f)

pub record Counting (whole rest : List ℕ) (n : ℕ) : Type 0 where
  pub count : n + length rest ≡ length whole

-- the next ones were counted
pub counted : {whole rest rest' : List ℕ} {n more : ℕ} (xs : List ℕ) → rest ≡ xs ++ rest' → more ≡ length xs
    → Counting whole rest n → Counting whole rest' (n + more)
counted {rest' = rest'} xs e m f =
    record { count = omega (arith, ap length e ∙ length-append xs rest', m, f.count) }
