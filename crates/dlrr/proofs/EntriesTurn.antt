-- One turn of the loop that stores entries, on plain lists and numbers.
use Prim.Native.Nat.{ℕ, ◌+◌, ◌*◌, ◌≤◌, ◌<◌}
use mathlib.Core.Path.{◌≡◌, refl, ap}
use mathlib.Core.List.{List, [], ◌∷◌, map}
use native.Mathlib.Omega.{arith}
use lib.ListN.{length, drop, set, length-map}
use Rattle.laws.proofs.Filling.{Filling, start, within, put, done}
use Rattle.def_wire.specs.Bytes.{words32}
use Rattle.def_standard.specs.declared.Echo.{Echo}
use Rattle.def_standard.specs.Standard.{echoes_of, entries_of}
use Rattle.def_questions.specs.Questions.{least3}
use Rattle.dlrr.specs.Entries.{echo_at, ssrc_in, last_in, delay_in, Stored}
use Rattle.dlrr.proofs.EntriesLaws.{echoes-cons, length-entries}

abbrev pub rest_at : List ℕ → ℕ → List Echo
rest_at v at = echoes_of (words32 (drop at v))

-- i entries are stored, and each list is filled so far
pub record Storing (v ss₀ ls₀ ds₀ ss ls ds : List ℕ) (i : ℕ) : Type 0 where
  pub ssrcs : Filling (map ssrc_in (entries_of v)) ss₀ ss (map ssrc_in (rest_at v (4 + 12 * i))) i
  pub lasts : Filling (map last_in (entries_of v)) ls₀ ls (map last_in (rest_at v (4 + 12 * i))) i
  pub delays : Filling (map delay_in (entries_of v)) ds₀ ds (map delay_in (rest_at v (4 + 12 * i))) i

module _ (v ss₀ ls₀ ds₀ : List ℕ) (n : ℕ) (count : n ≡ length (entries_of v)) where
  pub begun : n ≤ least3 ss₀ ls₀ ds₀ → Storing v ss₀ ls₀ ds₀ ss₀ ls₀ ds₀ 0
  begun h =
      record {
        ssrcs = start (rw (length-map (entries_of v) ssrc_in) (omega arith));
        lasts = start (rw (length-map (entries_of v) last_in) (omega arith));
        delays = start (rw (length-map (entries_of v) delay_in) (omega arith));
      }

  module _ (ss ls ds : List ℕ) (i : ℕ) (s : Storing v ss₀ ls₀ ds₀ ss ls ds i) where
    abbrev at : ℕ
    at = 4 + 12 * i

    -- the next entry is whole
    pub whole : i < n → at + 12 ≤ length v
    whole h = omega (arith, length-entries v)

    module _ (h : i < n) where
      next : rest_at v at ≡ echo_at v at ∷ rest_at v (4 + 12 * (i + 1))
      next = let e : 4 + 12 * (i + 1) ≡ at + 12 = omega arith in rw e (echoes-cons v at (whole h))

      pub room-ssrcs : i < length ss
      room-ssrcs = within (ap (map ssrc_in) next) s.ssrcs

      pub room-lasts : i < length ls
      room-lasts = within (ap (map last_in) next) s.lasts

      pub room-delays : i < length ds
      room-delays = within (ap (map delay_in) next) s.delays

      pub turned : (e : Echo) → e ≡ echo_at v at
          → Storing v ss₀ ls₀ ds₀ (set ss i e.ssrc) (set ls i e.last.0) (set ds i e.delay.0) (i + 1)
      turned e k =
          rw k
          (record {
            ssrcs = put (ap (map ssrc_in) next) s.ssrcs;
            lasts = put (ap (map last_in) next) s.lasts;
            delays = put (ap (map delay_in) next) s.delays;
          })

    -- nothing is left
    none : n ≤ i → (f : Echo → ℕ) (l : List ℕ) (l₀ : List ℕ)
        → Filling (map f (entries_of v)) l₀ l (map f (rest_at v at)) i → map f (rest_at v at) ≡ []
    none h f l l₀ g = empty (map f (rest_at v at)) (let k : length (map f (rest_at v at)) ≡ 0 = omega
        (arith, g.count, length-map (entries_of v) f) in k)
      where
        empty : (m : List ℕ) → length m ≡ 0 → m ≡ []
        empty [] e = refl
        empty (x ∷ m) e = absurd (omega arith)

    pub ended : n ≤ i → Stored (entries_of v) ss₀ ls₀ ds₀ ss ls ds
    ended h =
        record {
          ssrcs = (done (none h ssrc_in ss ss₀ s.ssrcs) s.ssrcs).1;
          lasts = (done (none h last_in ls ls₀ s.lasts) s.lasts).1;
          delays = (done (none h delay_in ds ds₀ s.delays) s.delays).1;
        }
