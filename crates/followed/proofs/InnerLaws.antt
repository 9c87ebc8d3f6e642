-- The items of a block fill it. Assumes nothing of the bytes.
--     Inner         what an item leaves of its block, so that the items behind it fill the block
--     Onward        a state is the block's next item, or the next block where so many bytes are none
--     kind-onward   it is so behind a good block's first four bytes
--     item-onward   and behind each complete item of it
use Rattle.std.specs.Prelude.{Option, Ok, Some, None}
use Prim.Native.Nat.{ℕ, ◌-◌, ◌%◌, ◌≤◌, ◌<◌}
use mathlib.Core.Path.{◌≡◌, refl}
use native.Mathlib.Omega.{arith}
use lib.Dec.{leb, eqb}
use borrow.Author.Tests.{eqb-true, eqb-false, leb-true}
use Rattle.def_wire.specs.declared.Kind.{Kind}
use Rattle.laws.proofs.Tests.{either}
use Rattle.def_wire.specs.declared.Kind.TheVariants.{Spans, Clock, Echoes, Statistics}
use Rattle.def_wire.specs.Block.{standard_rule, receipt_type, next_fit}
use Rattle.def_standard.specs.Chunks.{covers_of}
use Rattle.def_portions.specs.Events.{rule_of}
use Rattle.states.specs.declared.Known.{Known}
use Rattle.states.specs.declared.Portions.{Portions}
use Rattle.states.specs.Steps.{fields, word, time, whose, echo, clock, skipped, sums, hops}
use Rattle.states.specs.Steps.{known, low16, low32, type_in, ranged, moved, summing, opened, opened_by, summed_on, passed}
use Rattle.followed.proofs.CheckLaws.{rule-fine}

pub data Inner (item rest : ℕ) : Type 0 where
  at_fields : item ≡ fields → rest % 4 ≡ 0 → Inner item rest
  at-word : item ≡ word → rest % 2 ≡ 0 → Inner item rest
  at-time : item ≡ time → rest % 4 ≡ 0 → Inner item rest
  at-whose : item ≡ whose → rest % 12 ≡ 8 → Inner item rest
  at-echo : item ≡ echo → rest % 12 ≡ 0 → Inner item rest
  at-clock : item ≡ clock → rest ≡ 0 → Inner item rest
  at-sums : item ≡ sums → rest % 8 ≡ 4 → Inner item rest
  at-hops : item ≡ hops → rest ≡ 0 → Inner item rest
  at-skipped : item ≡ skipped → rest ≡ 0 → Inner item rest

-- an item of which bytes are missing, where the block has bytes left for it
pub record Begins (item size rest : ℕ) : Type 0 where
  pub some : 0 < size
  pub fits : size ≤ rest
  pub shape : Inner item (rest - size)

pub data Onward (announced rest behind : ℕ) (st : Portions) : Type 0 where
  onward : (k : Known) (item size : ℕ) → k.announced ≡ announced → (0 < rest → Begins item size rest)
      → st ≡ opened k rest behind item size → Onward announced rest behind st

-- behind a block's first four bytes, by its kind
pub kind-onward : {announced : ℕ} (kd : Option Kind) (k : Known) (l behind : ℕ) → k.announced ≡ announced
    → rule_of kd l ≡ Ok tt → l % 4 ≡ 0 → 4 ≤ l → Onward announced (l - 4) behind (opened_by kd k (l - 4) behind)
unfolding standard_rule
kind-onward (Some (Spans g)) k l behind e f d h =
    let r : 12 ≤ l = leb-true _ _ (rule-fine (leb 12 l) 12 l f) in
    onward k fields 8 e
    (λ s. record { some = omega arith; fits = omega arith; shape = at_fields refl (omega arith) }) refl
kind-onward (Some Clock) k l behind e f d h =
    let r : l ≡ 12 = eqb-true _ _ (rule-fine (eqb l 12) 12 l f) in
    onward k clock 8 e
    (λ s. record { some = omega arith; fits = omega arith; shape = at-clock refl (omega arith) }) refl
kind-onward (Some Echoes) k l behind e f d h =
    let r : (l - 4) % 12 ≡ 0 = eqb-true _ _ (rule-fine (eqb ((l - 4) % 12) 0) (next_fit l) l f) in
    onward k whose 4 e
    (λ (s : 0 < l - 4). record { some = omega arith; fits = omega arith; shape = at-whose refl (omega arith) }) refl
kind-onward (Some Statistics) k l behind e f d h =
    let r : l ≡ 40 = eqb-true _ _ (rule-fine (eqb l 40) 40 l f) in
    onward k sums 8 e
    (λ s. record { some = omega arith; fits = omega arith; shape = at-sums refl (omega arith) }) refl
kind-onward None k l behind e f d h =
    onward k skipped (l - 4) e
    (λ s. record { some = s; fits = omega arith; shape = at-skipped refl (omega arith) }) refl

-- behind a complete item
module _ (c : Portions) where
  times-begin : c.rest % 4 ≡ 0 → 0 < c.rest → Begins time 4 c.rest
  times-begin r s = record { some = omega arith; fits = omega arith; shape = at-time refl (omega arith) }

  words-begin : c.rest % 2 ≡ 0 → 0 < c.rest → Begins word 2 c.rest
  words-begin r s = record { some = omega arith; fits = omega arith; shape = at-word refl (omega arith) }

  -- in an entry
  abbrev sent : ℕ → Known
  sent ssrc = known c.known.announced c.known.block ssrc 0 0

  -- in a summary: eight bytes more, or the last four
  sums-onward : {announced : ℕ} → c.known.announced ≡ announced → c.item ≡ sums → c.rest % 8 ≡ 4
      → Onward announced c.rest c.behind (passed c)
  unfolding passed summed_on
  sums-onward e i r =
      either (eqb c.rest 4)
      (λ t. let n : c.rest ≡ 4 = eqb-true _ _ t in
      onward (summing c.known c.held) hops 4 e
      (λ (s : 0 < c.rest). record { some = omega arith; fits = omega arith; shape = at-hops refl (omega arith) })
      (rw (i, t)))
      (λ f. let n : c.rest ≡ 4 → ⊥ = eqb-false _ _ f in
      onward (summing c.known c.held) sums 8 e
      (λ (s : 0 < c.rest). record { some = omega arith; fits = omega arith; shape = at-sums refl (omega arith) })
      (rw (i, f)))

  pub item-onward : {announced : ℕ} → c.known.announced ≡ announced → Inner c.item c.rest
      → Onward announced c.rest c.behind (passed c)
  unfolding passed ranged
  item-onward e (at_fields i r) =
      either (eqb (type_in c.known) receipt_type)
      (λ t. onward (ranged c.known c.held) time 4 e (times-begin r) (rw (i, t)))
      (λ f. let q : c.rest % 2 ≡ 0 = omega arith in
      onward (ranged c.known c.held) word 2 e (words-begin q) (rw (i, f)))
  item-onward e (at-word i r) = onward (moved c.known (covers_of (low16 c.held))) word 2 e (words-begin r) (rw i)
  item-onward e (at-time i r) = onward (moved c.known 1) time 4 e (times-begin r) (rw i)
  item-onward e (at-whose i r) =
      onward (sent (low32 c.held)) echo 8 e
      (λ (s : 0 < c.rest). record { some = omega arith; fits = omega arith; shape = at-echo refl (omega arith) })
      (rw i)
  item-onward e (at-echo i r) =
      onward (sent 0) whose 4 e
      (λ (s : 0 < c.rest). record { some = omega arith; fits = omega arith; shape = at-whose refl (omega arith) })
      (rw i)
  item-onward e (at-clock i r) =
      onward c.known skipped c.rest e (λ (s : 0 < c.rest). absurd (omega arith)) (rw i)
  item-onward e (at-sums i r) = sums-onward e i r
  item-onward e (at-hops i r) =
      onward c.known skipped c.rest e (λ (s : 0 < c.rest). absurd (omega arith)) (rw i)
  item-onward e (at-skipped i r) =
      onward c.known skipped c.rest e (λ (s : 0 < c.rest). absurd (omega arith)) (rw i)
