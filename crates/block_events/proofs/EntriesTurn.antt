-- One turn of the loop that stores entries as events, on plain lists and numbers. Assumes nothing.
use Rattle.std.proofs.Common.{◌≡◌, ℕ, suc, ◌+◌, ◌-◌, ◌*◌, ◌≤◌, List, [], ◌∷◌, map, length, set, sym, refl, ap, ◌∙◌, arith, length-set}
use Rattle.def_wire.specs.Bytes.{be32}
use Rattle.def_standard.specs.declared.Echo.{Echo}
use Rattle.def_standard.specs.Standard.{entries_of}
use Rattle.def_portions.specs.declared.Event.{Event}
use Rattle.def_portions.specs.declared.Event.TheVariants.{Entry}
use Rattle.def_portions.specs.Lists.{halves, tag_of, number_part, value_part, put_sums}
use Rattle.event_lists.specs.Laid.{Laid}
use Rattle.dlrr.specs.Entries.{echo_at}
use Rattle.dlrr.proofs.EntriesLaws.{echoes-cons, length-entries}
use Rattle.dlrr.proofs.EntriesTurn.{rest_at}
use Rattle.block_events.proofs.AheadLaws.{Ahead, start, put, ended}

abbrev pub entries_at : List ℕ → ℕ → List Event
entries_at v at = map Entry (rest_at v at)

-- `left` entries are still to be stored, from index i on: they are there, and there is room for them. Entries have no
-- numbers, and nothing in the fourth list: these are none here
pub record Echoing (v : List ℕ) (n : ℕ) (t₀ w₀ t w : List ℕ) (left at i : ℕ) : Type 0 where
  pub there : 12 * left ≤ length v - at
  pub count : length (rest_at v at) ≡ left
  pub room-tags : i + left ≤ length t
  pub room-values : i + left ≤ length w
  pub same-tags : length t ≡ length t₀
  pub same-values : length w ≡ length w₀
  pub ahead : Ahead (map Entry (entries_of v)) n t₀ [] w₀ [] (entries_at v at) i t [] w []

pub begun : (v : List ℕ) (count n : ℕ) (t w : List ℕ) → count ≡ length (entries_of v) → n + count ≤ length t
    → n + count ≤ length w → Echoing v n t w t w count 4 n
begun v count n t w e h k =
    record {
      there = omega (arith, e, length-entries v);
      count = omega (arith, e);
      room-tags = h;
      room-values = k;
      same-tags = refl;
      same-values = refl;
      ahead = start;
    }

none : (es : List Echo) → length es ≡ 0 → es ≡ []
none [] e = refl
none (x ∷ es) e = absurd (omega arith)

module _ {v : List ℕ} {n : ℕ} {t₀ w₀ t w : List ℕ} {left at i : ℕ} (p : Echoing v n t₀ w₀ t w left at i) where
  -- the next entry is whole
  pub entry-there : (left ≡ 0 → ⊥) → at + 12 ≤ length v
  entry-there h = omega (arith, p.there)

  next : (left ≡ 0 → ⊥) → rest_at v at ≡ echo_at v at ∷ rest_at v (at + 12)
  next h = echoes-cons v at (entry-there h)

  pub turned : (left ≡ 0 → ⊥) → (ssrc value : ℕ) → ssrc ≡ be32 v at
      → value ≡ halves (be32 v (at + 4)) (be32 v (at + 8))
      → Echoing v n t₀ w₀ (set t i (6 + 256 * ssrc)) (set w i value) (left - 1) (at + 12) (i + 1)
  unfolding tag_of number_part value_part put_sums
  turned h ssrc value e k =
      let m : suc (length (rest_at v (at + 12))) ≡ left = sym (ap length (next h)) ∙ p.count in
      record {
        there = omega (arith, p.there);
        count = omega (arith, m);
        room-tags = omega (arith, p.room-tags, length-set t i (6 + 256 * ssrc));
        room-values = omega (arith, p.room-values, length-set w i value);
        same-tags = length-set t i (6 + 256 * ssrc) ∙ p.same-tags;
        same-values = length-set w i value ∙ p.same-values;
        ahead = put (Entry (echo_at v at)) (ap (map Entry) (next h)) (ap (λ (s : ℕ). set t i (6 + 256 * s)) e) refl
            (ap (set w i) k) refl p.ahead;
      }

  pub entries-stored : left ≡ 0 → Laid (map Entry (entries_of v)) n t₀ [] w₀ [] t [] w [] i
  entries-stored e = ended (ap (map Entry) (none (rest_at v at) (p.count ∙ e))) p.ahead
