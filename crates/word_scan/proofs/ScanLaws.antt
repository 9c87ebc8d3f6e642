-- A word among the words of some bytes. Assumes bytes below 256 in `has-swapped`.
--     Seen            a word is among those gone through so far, or among the rest; whatever the bytes' order
--     seen_word, ..   one more of them, two bytes at a time
--     has-swapped     a block's run of no length, with its bytes the other way round
use Prim.Native.Nat.{ℕ, suc, ◌+◌, ◌*◌, ◌/◌, ◌≤◌, ◌<◌}
use mathlib.Core.Path.{◌≡◌, refl, sym, ap, ap₂, ◌∙◌}
use mathlib.Core.Bool.{Bool, true, false, ◌||◌}
use mathlib.Core.List.{List, [], ◌∷◌}
use native.Mathlib.Omega.{arith}
use lib.ListN.{length, get_or, drop, length-drop}
use Rattle.std.proofs.Common.{get_or-take, add-zero, w16}
use Rattle.std.specs.Int.{from_le_bytes}
use Rattle.std.specs.Simd.{first_chunks}
use lib.Dec.{eqb}
use borrow.Author.Tests.{eqb-true, eqb-false, eq-eqb, ne_eqb}
use Rattle.laws.proofs.Tests.{either}
use Rattle.utils.proofs.BytesLaws.{Bytes}
use Rattle.utils.proofs.PairsLaws.{pair_at}
use Rattle.utils.proofs.ClearLaws.{has-nil, has-cons, has_here, has-behind}
use Rattle.def_wire.specs.Bytes.{words16, pair_up}
use Rattle.def_wire.specs.Block.{lost_run, has}
use Rattle.def_jobs.specs.Jobs.{low16, le16, pair_low}
use Rattle.little_endian.proofs.LowLaws.{le16-drop, pair_low-cons, pair_low-short}

-- a word is among those gone through, or among the rest
pub record Seen (w : ℕ) (whole rest : List ℕ) (found : Bool) : Type 0 where
  pub by : has w whole ≡ (found || has w rest)

or-false : (b : Bool) → (b || false) ≡ b
or-false true = refl
or-false false = refl

-- none was gone through
pub seen_none : (w : ℕ) (whole : List ℕ) → Seen w whole whole false
seen_none w whole = record { by = refl }

or-true : (b : Bool) → (b || true) ≡ true
or-true true = refl
or-true false = refl

or-assoc : (a b c : Bool) → (a || (b || c)) ≡ ((a || b) || c)
or-assoc true b c = refl
or-assoc false b c = refl

module _ {w : ℕ} {whole here : List ℕ} {found : Bool} (s : Seen w whole here found) where
  -- the next one is it or not
  seen_next : (x : ℕ) (rest : List ℕ) → here ≡ x ∷ rest → Seen w whole rest (found || eqb x w)
  seen_next x rest e = record { by = s.by ∙ (rw (e, has-cons w x rest) (or-assoc found (eqb x w) (has w rest))) }

  module _ (x : ℕ) (rest : List ℕ) (e : here ≡ x ∷ rest) where
    -- it is
    pub seen_here : x ≡ w → Seen w whole rest true
    seen_here q = record { by = s.by ∙ (rw (e, has_here w x rest q) (or-true found)) }

    -- it is not
    pub seen-on : (x ≡ w → ⊥) → Seen w whole rest found
    seen-on n = record { by = s.by ∙ (rw (e, has-behind w x rest n)) }

  pub seen_all : here ≡ [] → found ≡ has w whole
  seen_all e = sym (s.by ∙ (rw (e, has-nil w) (or-false found)))

module _ (s : List ℕ) (i : ℕ) (h : i < length s / 2) where
  number_at : from_le_bytes w16 (get_or (first_chunks 2 (length s / 2) s) i []) ≡ le16 s (2 * i)
  number_at =
      let d = drop (2 * i) s in
      rw (pair_at (length s / 2) s i h, get_or-take 2 d 0 0 (omega arith), get_or-take 2 d 1 0 (omega arith))
      (le16-drop (2 * i) s 0 ∙ ap (le16 s) (add-zero (2 * i)))

  -- a word was looked at
  pub seen_word : {w x : ℕ} {whole : List ℕ} {found : Bool} → Seen w whole (low16 (drop (2 * i) s)) found
      → x ≡ from_le_bytes w16 (get_or (first_chunks 2 (length s / 2) s) i [])
      → Seen w whole (low16 (drop (2 * (i + 1)) s)) (found || eqb x w)
  seen_word {w} {x} t e =
      let n : 2 * (i + 1) ≡ 2 * i + 2 = omega arith in
      rw (n, e, number_at) (seen_next t (le16 s (2 * i)) _ (pair_low-cons 256 s (2 * i) (omega arith)))

-- none is left
pub seen_end : (s : List ℕ) (i : ℕ) → length s / 2 ≤ i → low16 (drop (2 * i) s) ≡ []
seen_end s i h = pair_low-short 256 (drop (2 * i) s) (omega (arith, length-drop (2 * i) s))

-- a block's word 16384 has the bytes 64 and 0; with the second worth more that is 64
same : (x y : ℕ) → x < 256 → y < 256 → eqb (x * 256 + y) lost_run ≡ eqb (x + y * 256) 64
same x y h k =
    either (eqb (x + y * 256) 64)
    (λ t. let e : x + y * 256 ≡ 64 = eqb-true _ _ t in eq-eqb (x * 256 + y) 16384 (omega arith) ∙ sym t)
    (λ f. let n : x + y * 256 ≡ 64 → ⊥ = eqb-false _ _ f in
    ne_eqb (x * 256 + y) 16384 (λ (e : x * 256 + y ≡ 16384). n (omega arith)) ∙ sym f)

pub has-swapped : (s : List ℕ) → Bytes s → has lost_run (words16 s) ≡ has 64 (low16 s)
unfolding pair_up pair_low
has-swapped [] b = has-nil lost_run ∙ sym (has-nil 64)
has-swapped (x ∷ []) b = has-nil lost_run ∙ sym (has-nil 64)
has-swapped (x ∷ y ∷ s) b =
    has-cons lost_run (x * 256 + y) (words16 s)
    ∙ ap₂ (λ (p q : Bool). p || q) (same x y (b 0) (b 1)) (has-swapped s (λ i. b (suc (suc i))))
    ∙ sym (has-cons 64 (x + y * 256) (low16 s))
