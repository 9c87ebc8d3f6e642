-- The entries of a block of type 5, as far as their bytes have come. Assumes bytes below 256.
--     entries      entries in a row: an SSRC, then eight bytes
use Prim.Native.Nat.{ℕ, ◌+◌, ◌-◌, ◌≤◌, ◌<◌}
use mathlib.Core.Path.{◌≡◌, refl, sym, ap, ◌∙◌}
use mathlib.Core.List.{List, [], ◌∷◌, ◌++◌, map}
use native.Mathlib.Omega.{arith}
use lib.ListN.{length, take, drop, take-append-drop, length-drop}
use lib.Seq.{length-take-le}
use lib.Dec.{ltb}
use borrow.Author.Tests.{ltb-true, ltb-false}
use Rattle.laws.proofs.Tests.{either}
use Rattle.utils.proofs.BytesLaws.{Bytes, length-words32}
use Rattle.def_wire.specs.Bytes.{be32, be64, words32, pair_up}
use Rattle.def_standard.specs.declared.Echo.{Echo}
use Rattle.def_standard.specs.Standard.{echoes_of}
use Rattle.def_portions.specs.declared.Event.{Event}
use Rattle.def_portions.specs.declared.Event.TheVariants.{Entry}
use Rattle.def_portions.specs.Events.{quiet, then}
use Rattle.states.specs.declared.Known.{Known}
use Rattle.states.specs.Steps.{state, known, whose, echo, held_over, low32, high32, passed, shown_by, lone_of, opened}
use Rattle.followed.specs.Run.{run_of, opening}
use Rattle.followed.proofs.ItemRun.{item-open, item-passed}
use Rattle.followed.proofs.BehindRun.{opened-item}
use Rattle.followed.proofs.ValueLaws.{by-four, by-eight, held_low, held-eight, be32-lt, bytes_take, bytes_drop}
use Rattle.followed.proofs.UnitsRun.{Units, listed-split}

-- an entry's numbers
abbrev entry_at : List ℕ → Echo
entry_at bs = record { ssrc = be32 bs 0; last = record { 0 = be32 bs 4 }; delay = record { 0 = be32 bs 8 } }

-- in which nothing has to be known
pub record Anything (p : ℕ) (k : Known) : Type 0 where

abbrev pub entries_listed : ℕ → List ℕ → List Event
entries_listed p bs = map Entry (echoes_of (words32 bs))

module _ (k : Known) (rest behind : ℕ) where
  -- behind the SSRC
  abbrev sent : ℕ → Known
  sent ssrc = known k.announced k.block ssrc 0 0

  whose-passed : (s x : List ℕ) → length s ≡ 4
      → run_of (state whose 4 0 (12 + rest - 4) behind k) (s ++ x)
      ≡ run_of (state echo 8 0 (12 + rest - 4 - 8) behind (sent (low32 (held_over whose 0 s)))) x
  unfolding passed shown_by lone_of
  whose-passed s x e =
      item-passed whose 4 (12 + rest - 4) behind k s x (omega arith) e refl
      ∙ opened-item (sent (low32 (held_over whose 0 s))) (12 + rest - 4) behind echo 8 x refl (omega arith)

  echo-passed : (t x : List ℕ) → length t ≡ 8 → Bytes t
      → run_of (state echo 8 0 rest behind k) (t ++ x)
      ≡ then (Entry (record { ssrc = k.whose; last = record { 0 = be32 t 0 }; delay = record { 0 = be32 t 4 } }) ∷ [])
      (opening (opened (known k.announced k.block 0 0 0) rest behind whose 4) x)
  unfolding passed shown_by lone_of
  echo-passed t x e y =
      let h : be32 t 0 < 4294967296 = be32-lt t 0 y in
      let l : be32 t 4 < 4294967296 = be32-lt t 4 y in
      let u : high32 (be64 t 0) ≡ be32 t 0 = omega arith in
      let v : low32 (be64 t 0) ≡ be32 t 4 = omega arith in
      item-passed echo 8 rest behind k t x (omega arith) e refl ∙ (rw (held-eight echo refl t e y, u, v))

  -- an entry of which bytes are missing
  entry-begun : (bs : List ℕ) → length bs < 12 → run_of (state whose 4 0 (12 + rest - 4) behind k) bs ≡ quiet
  entry-begun bs h =
      either (ltb (length bs) 4)
      (λ t. item-open whose 4 (12 + rest - 4) behind k bs (ltb-true _ _ t))
      (λ f. let l : 4 ≤ length bs = ltb-false _ _ f in
      let b = take 4 bs in
      let k' = sent (low32 (held_over whose 0 b)) in
      ap (run_of (state whose 4 0 (12 + rest - 4) behind k)) (sym (take-append-drop 4 bs))
      ∙ whose-passed b (drop 4 bs) (length-take-le 4 bs l)
      ∙ item-open echo 8 (12 + rest - 4 - 8) behind k' (drop 4 bs) (omega (arith, length-drop 4 bs)))

-- behind an entry
abbrev passed_by : Known → Known
passed_by k = known k.announced k.block 0 0 0

entry_whole : (k : Known) (s t : List ℕ) → length s ≡ 4 → length t ≡ 8 → Bytes s → Bytes t
    → (rest behind : ℕ) (x : List ℕ)
    → run_of (state whose 4 0 (12 + rest - 4) behind k) (s ++ (t ++ x))
    ≡ then (Entry (record { ssrc = be32 s 0; last = record { 0 = be32 t 0 }; delay = record { 0 = be32 t 4 } }) ∷ [])
    (opening (opened (passed_by k) rest behind whose 4) x)
entry_whole k s t e f y z rest behind x =
    let r : 12 + rest - 4 - 8 ≡ rest = omega arith in
    whose-passed k rest behind s (t ++ x) e
    ∙ (rw (held_low whose refl s e y, r) (echo-passed (sent k rest behind (be32 s 0)) rest behind t x f z))

-- twelve bytes
by-twelve : (P : List ℕ → Type 0) → ((a b c d : ℕ) (t : List ℕ) → length t ≡ 8 → P (a ∷ b ∷ c ∷ d ∷ t))
    → (bs : List ℕ) → length bs ≡ 12 → P bs
by-twelve P f bs e =
    rw (take-append-drop 4 bs) at
    (by-four (λ s. P (s ++ drop 4 bs)) (λ a b c d. f a b c d (drop 4 bs) (omega (arith, length-drop 4 bs)))
    (take 4 bs) (length-take-le 4 bs (omega arith)))

echoes-short : (ws : List ℕ) → length ws < 3 → echoes_of ws ≡ []
unfolding echoes_of
echoes-short [] h = refl
echoes-short (s ∷ []) h = refl
echoes-short (s ∷ l ∷ []) h = refl
echoes-short (s ∷ l ∷ d ∷ ws) h = absurd (omega arith)

entries-split : (p : ℕ) (bs x : List ℕ) → length bs ≡ 12
    → entries_listed p (bs ++ x) ≡ Entry (entry_at bs) ∷ entries_listed p x
unfolding echoes_of pair_up
entries-split p bs x =
    by-twelve (λ s. entries_listed p (s ++ x) ≡ Entry (entry_at s) ∷ entries_listed p x)
    (λ a b c d. by-eight
    (λ t. entries_listed p (a ∷ b ∷ c ∷ d ∷ (t ++ x)) ≡ Entry (entry_at (a ∷ b ∷ c ∷ d ∷ t)) ∷ entries_listed p x)
    (λ i j k l m n o q. refl))
    bs

pub entries : Units whose 4 12 Anything (λ p bs. then (entries_listed p bs))
entries =
    record {
      inner = refl;
      some = omega arith;
      shown = λ p bs. then (Entry (entry_at bs) ∷ []);
      past = λ p bs. p;
      moved = λ k bs. passed_by k;
      kept = λ k bs. refl;
      short = λ p bs h c. rw (echoes-short (words32 bs) (omega (arith, length-words32 bs)));
      begun = entry-begun;
      split = λ p bs x e. listed-split (Entry (entry_at bs) ∷ []) (entries_listed p x) (entries-split p bs x e);
      passes = λ p k g bs e y. record {};
      whole = λ p k g bs e y rest behind x. by-twelve
          (λ s. Bytes s
          → run_of (state whose 4 0 (12 + rest - 4) behind k) (s ++ x)
          ≡ then (Entry (entry_at s) ∷ []) (opening (opened (passed_by k) rest behind whose 4) x))
          (λ a b c d t f z. let s = a ∷ b ∷ c ∷ d ∷ [] in
          entry_whole k s t refl f (bytes_take 4 (s ++ t) z) (bytes_drop 4 (s ++ t) z) rest behind x) bs e y;
    }
