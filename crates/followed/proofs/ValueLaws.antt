-- The bytes of an item that have come, as a number: big-endian, and nothing is lost. Assumes bytes below 256.
--     bytes_take, bytes_drop     a part's bytes
--     held_two, ..               an item of two, four and eight bytes
--     four-held, held_back, ..   its bytes read back
use Prim.Native.Nat.{ℕ, ◌+◌, ◌*◌, ◌/◌, ◌%◌, ◌≤◌, ◌<◌}
use mathlib.Core.Path.{◌≡◌, refl, sym, ap, ap₂, ◌∙◌}
use mathlib.Core.Bool.{false}
use mathlib.Core.List.{List, [], ◌∷◌, ◌++◌}
use native.Mathlib.Nat.{mod-eq_of_lt, zero-add}
use native.Mathlib.Omega.{arith}
use lib.ListN.{length, take, drop, length-take, length-drop, take-append-drop, get_or-eq_default}
use lib.Seq.{take-append_seam, get_or-take, get_or-drop}
use lib.Dec.{ltb, eqb}
use borrow.Author.Tests.{ltb-true, ltb-false}
use Rattle.laws.proofs.Tests.{either}
use Rattle.def_wire.specs.Bytes.{be16, be32, be64, four, eight}
use Rattle.utils.proofs.BytesLaws.{Bytes, be16-lt}
use Rattle.utils.proofs.StoresLaws.{four_low}
use Rattle.states.specs.Steps.{skipped, held_over, low16, low32}

-- ---- a part's bytes

pub bytes_take : (n : ℕ) (s : List ℕ) → Bytes s → Bytes (take n s)
bytes_take n s b i =
    either (ltb i n)
    (λ t. rw (get_or-take n s i 0 (ltb-true _ _ t)) (b i))
    (λ f. let h : n ≤ i = ltb-false _ _ f in
    let l : length (take n s) ≤ i = omega (arith, length-take n s) in
    rw (get_or-eq_default (take n s) 0 l) (omega arith))

pub bytes_drop : (n : ℕ) (s : List ℕ) → Bytes s → Bytes (drop n s)
bytes_drop n s b i = rw (get_or-drop n s i 0) (b (n + i))

pub bytes-front : (s t : List ℕ) → Bytes (s ++ t) → Bytes s
bytes-front s t y = rw (take-append_seam s t) at (bytes_take (length s) (s ++ t) y)

-- ---- lists of two, four and eight

pub by_two : (P : List ℕ → Type 0) → ((a b : ℕ) → P (a ∷ b ∷ [])) → (s : List ℕ) → length s ≡ 2 → P s
by_two P f [] e = absurd (omega arith)
by_two P f (a ∷ []) e = absurd (omega arith)
by_two P f (a ∷ b ∷ []) e = f a b
by_two P f (a ∷ b ∷ x ∷ s) e = absurd (omega arith)

pub by-four : (P : List ℕ → Type 0) → ((a b c d : ℕ) → P (a ∷ b ∷ c ∷ d ∷ [])) → (s : List ℕ) → length s ≡ 4 → P s
by-four P f [] e = absurd (omega arith)
by-four P f (a ∷ []) e = absurd (omega arith)
by-four P f (a ∷ b ∷ []) e = absurd (omega arith)
by-four P f (a ∷ b ∷ c ∷ []) e = absurd (omega arith)
by-four P f (a ∷ b ∷ c ∷ d ∷ []) e = f a b c d
by-four P f (a ∷ b ∷ c ∷ d ∷ x ∷ s) e = absurd (omega arith)

-- four, and others
pub by_first : (P : List ℕ → Type 0) → ((a b c d : ℕ) (x : List ℕ) → P (a ∷ b ∷ c ∷ d ∷ x)) → (s : List ℕ)
    → 4 ≤ length s → P s
by_first P f [] h = absurd (omega arith)
by_first P f (a ∷ []) h = absurd (omega arith)
by_first P f (a ∷ b ∷ []) h = absurd (omega arith)
by_first P f (a ∷ b ∷ c ∷ []) h = absurd (omega arith)
by_first P f (a ∷ b ∷ c ∷ d ∷ x) h = f a b c d x

pub by-eight : (P : List ℕ → Type 0)
    → ((a b c d i j k l : ℕ) → P (a ∷ b ∷ c ∷ d ∷ i ∷ j ∷ k ∷ l ∷ [])) → (s : List ℕ) → length s ≡ 8 → P s
by-eight P f s e =
    rw (take-append-drop 4 s) at
    (by-four (λ x. P (x ++ drop 4 s))
    (λ a b c d. by-four (λ y. P (a ∷ b ∷ c ∷ d ∷ y)) (f a b c d) (drop 4 s) (omega (arith, length-drop 4 s)))
    (take 4 s) (omega (arith, length-take 4 s)))

pub be32-lt : (s : List ℕ) (at : ℕ) → Bytes s → be32 s at < 4294967296
be32-lt s at h = omega (arith, be16-lt s at h, be16-lt s (at + 2) h)

-- ---- what is held

module _ (item : ℕ) (o : eqb item skipped ≡ false) where
  held_cons : (h b : ℕ) (bs : List ℕ) → h < 72057594037927936
      → held_over item h (b ∷ bs) ≡ held_over item (h * 256 + b) bs
  unfolding held_over
  held_cons h b bs l = rw (o, mod-eq_of_lt l)

  held_more : (h a b c d : ℕ) (bs : List ℕ) → h < 4294967296 → Bytes (a ∷ b ∷ c ∷ d ∷ bs)
      → held_over item h (a ∷ b ∷ c ∷ d ∷ bs) ≡ held_over item (h * 4294967296 + be32 (a ∷ b ∷ c ∷ d ∷ bs) 0) bs
  held_more h a b c d bs l y =
      let i : a < 256 = y 0 in
      let j : b < 256 = y 1 in
      let k : c < 256 = y 2 in
      let m : d < 256 = y 3 in
      let w = (a * 256 + b) * 65536 + (c * 256 + d) in
      let e : (((h * 256 + a) * 256 + b) * 256 + c) * 256 + d ≡ h * 4294967296 + w = omega arith in
      held_cons h a (b ∷ c ∷ d ∷ bs) (omega arith)
      ∙ held_cons (h * 256 + a) b (c ∷ d ∷ bs) (omega arith)
      ∙ held_cons ((h * 256 + a) * 256 + b) c (d ∷ bs) (omega arith)
      ∙ held_cons (((h * 256 + a) * 256 + b) * 256 + c) d bs (omega arith)
      ∙ ap (λ (x : ℕ). held_over item x bs) e

  pub held_two : (s : List ℕ) → length s ≡ 2 → Bytes s → low16 (held_over item 0 s) ≡ be16 s 0
  unfolding held_over
  held_two =
      by_two (λ s. Bytes s → low16 (held_over item 0 s) ≡ be16 s 0)
      (λ a b y. let i : a < 256 = y 0 in
      let j : b < 256 = y 1 in
      rw (held_cons 0 a (b ∷ []) (omega arith), held_cons (0 * 256 + a) b [] (omega arith)) (omega arith))

  pub held-four : (s : List ℕ) → length s ≡ 4 → Bytes s → held_over item 0 s ≡ be32 s 0
  unfolding held_over
  held-four =
      by-four (λ s. Bytes s → held_over item 0 s ≡ be32 s 0)
      (λ a b c d y. held_more 0 a b c d [] (omega arith) y ∙ zero-add _)

  pub held_low : (s : List ℕ) → length s ≡ 4 → Bytes s → low32 (held_over item 0 s) ≡ be32 s 0
  held_low s e y = rw (held-four s e y) (mod-eq_of_lt (be32-lt s 0 y))

  pub held-eight : (s : List ℕ) → length s ≡ 8 → Bytes s → held_over item 0 s ≡ be64 s 0
  unfolding held_over
  held-eight =
      by-eight (λ s. Bytes s → held_over item 0 s ≡ be64 s 0)
      (λ a b c d i j k l y. let s = a ∷ b ∷ c ∷ d ∷ i ∷ j ∷ k ∷ l ∷ [] in
      held_more 0 a b c d (i ∷ j ∷ k ∷ l ∷ []) (omega arith) y
      ∙ ap (λ (x : ℕ). held_over item x (i ∷ j ∷ k ∷ l ∷ [])) (zero-add (be32 s 0))
      ∙ held_more (be32 s 0) i j k l [] (be32-lt s 0 y) (bytes_drop 4 s y))

-- ---- the bytes read back

pub four-held : (s : List ℕ) → length s ≡ 4 → Bytes s → four (be32 s 0) ≡ s
four-held =
    by-four (λ s. Bytes s → four (be32 s 0) ≡ s)
    (λ a b c d y. let i : a < 256 = y 0 in
    let j : b < 256 = y 1 in
    let k : c < 256 = y 2 in
    let m : d < 256 = y 3 in
    let w = (a * 256 + b) * 65536 + (c * 256 + d) in
    let e₁ : w / 65536 / 256 % 256 ≡ a = omega arith in
    let e₂ : w / 65536 % 256 ≡ b = omega arith in
    let e₃ : w / 256 % 256 ≡ c = omega arith in
    let e₄ : w % 256 ≡ d = omega arith in
    rw (e₁, e₂, e₃, e₄))

pub eight-held : (s : List ℕ) → length s ≡ 8 → Bytes s → eight (be64 s 0) ≡ s
eight-held =
    by-eight (λ s. Bytes s → eight (be64 s 0) ≡ s)
    (λ a b c d i j k l y. let s = a ∷ b ∷ c ∷ d ∷ i ∷ j ∷ k ∷ l ∷ [] in
    let u : be32 s 4 < 4294967296 = be32-lt s 4 y in
    let e : be64 s 0 / 4294967296 ≡ be32 s 0 = omega arith in
    let f : be64 s 0 % 4294967296 ≡ be32 s 4 = omega arith in
    ap₂ (λ (x y : List ℕ). x ++ y)
    (ap four e ∙ four-held (a ∷ b ∷ c ∷ d ∷ []) refl (bytes_take 4 s y))
    (sym (four_low (be64 s 0)) ∙ ap four f ∙ four-held (i ∷ j ∷ k ∷ l ∷ []) refl (bytes_drop 4 s y)))

-- of an item of four bytes that are held
pub held_back : (item : ℕ) → eqb item skipped ≡ false → (s : List ℕ) → length s ≡ 4 → Bytes s
    → four (low32 (held_over item 0 s)) ≡ s
held_back item o s e y = ap four (held_low item o s e y) ∙ four-held s e y
