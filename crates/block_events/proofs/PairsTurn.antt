-- One turn of the loop that stores pairs as events, on plain lists and numbers. Assumes nothing.
use Rattle.std.proofs.Common.{◌≡◌, ℕ, ◌+◌, ◌-◌, ◌*◌, ◌≤◌, List, [], ◌∷◌, map, length, drop, set, refl, ap, ◌∙◌, arith, length-drop, length-set}
use lib.ListN.{length-map}
use Rattle.def_wire.specs.Bytes.{be32, words32}
use Rattle.def_standard.specs.declared.Receipt.{Receipt}
use Rattle.def_standard.specs.Standard.{receipt}
use Rattle.def_questions.specs.Questions.{least3}
use Rattle.def_portions.specs.declared.Event.{Event}
use Rattle.def_portions.specs.declared.Event.TheVariants.{Pair}
use Rattle.def_portions.specs.Lists.{tag_of, number_part, value_part, put_sums}
use Rattle.utils.proofs.BytesLaws.{words32-cons, length-words32}
use Rattle.range.specs.Steps.{onward}
use Rattle.packet_receipt_time.specs.Pairs.{stepped}
use Rattle.packet_receipt_time.proofs.PairsLaws.{stepped-none, stepped-cons}
use Rattle.packet_receipt_time.proofs.PairsTurn.{rest_at}
use Rattle.block_events.specs.Pairs.{PairsLaid}
use Rattle.block_events.proofs.AheadLaws.{Ahead, start, put, ended}

-- so many pairs from the number x and the time at `at` on
abbrev pub pairs_at : List ℕ → ℕ → ℕ → ℕ → ℕ → List Event
pairs_at v step x left at = map Pair (rest_at v step x left at)

-- `left` pairs are still to be stored, from index i on: their times are there, and there is room for them. Pairs have
-- nothing in the fourth list: it is none here
pub record Pairing (v : List ℕ) (step : ℕ) (whole : List Receipt) (n : ℕ) (t₀ u₀ w₀ t u w : List ℕ) (left at i x : ℕ)
    : Type 0 where
  pub times : 4 * left ≤ length v - at
  pub room : i + left ≤ least3 t u w
  pub same-tags : length t ≡ length t₀
  pub same_numbers : length u ≡ length u₀
  pub same-values : length w ≡ length w₀
  pub ahead : Ahead (map Pair whole) n t₀ u₀ w₀ [] (pairs_at v step x left at) i t u w []

pub begun : (v : List ℕ) (step first count n : ℕ) (t u w : List ℕ) → count ≤ length (words32 (drop 12 v))
    → n + count ≤ least3 t u w
    → Pairing v step (rest_at v step first count 12) n t u w t u w count 12 n first
begun v step first count n t u w h k =
    record {
      times = omega (arith, h, length-words32 (drop 12 v), length-drop 12 v);
      room = k;
      same-tags = refl;
      same_numbers = refl;
      same-values = refl;
      ahead = start;
    }

module _ {v : List ℕ} {step : ℕ} {whole : List Receipt} {n : ℕ} {t₀ u₀ w₀ t u w : List ℕ} {left at i x : ℕ}
    (p : Pairing v step whole n t₀ u₀ w₀ t u w left at i x) where
  -- the next time is whole
  pub time-there : (left ≡ 0 → ⊥) → at + 4 ≤ length v
  time-there h = omega (arith, p.times)

  next : (left ≡ 0 → ⊥)
      → pairs_at v step x left at ≡ Pair (receipt x (be32 v at)) ∷ pairs_at v step (onward step x) (left - 1) (at + 4)
  next h =
      ap (map Pair)
      (ap (λ (l : List ℕ). stepped step x left l) (words32-cons v at (time-there h))
      ∙ stepped-cons step x left (left - 1) (be32 v at) (words32 (drop (at + 4) v)) (omega arith))

  pub turned : (left ≡ 0 → ⊥) → (time y : ℕ) → time ≡ be32 v at → y ≡ onward step x
      → Pairing v step whole n t₀ u₀ w₀ (set t i 5) (set u i x) (set w i time) (left - 1) (at + 4) (i + 1) y
  unfolding tag_of number_part value_part put_sums
  turned h time y e k =
      rw (e, k)
      (record {
        times = omega (arith, p.times);
        room = omega (arith, p.room, length-set t i 5, length-set u i x, length-set w i (be32 v at));
        same-tags = length-set t i 5 ∙ p.same-tags;
        same_numbers = length-set u i x ∙ p.same_numbers;
        same-values = length-set w i (be32 v at) ∙ p.same-values;
        ahead = put (Pair (receipt x (be32 v at))) (next h) refl refl refl refl p.ahead;
      })

  pub pairs-stored : left ≡ 0 → PairsLaid whole n t₀ u₀ w₀ t u w i
  pairs-stored e = let l = ended (ap (map Pair) (stepped-none step x left (words32 (drop at v)) e)) p.ahead in
      record {
        tags = l.tags;
        numbers = l.numbers;
        values = l.values;
        past = l.past ∙ ap (λ (m : ℕ). n + m) (length-map whole Pair);
      }
