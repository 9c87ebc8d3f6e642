-- The laws of little-endian numbers and of their big-endian bytes, which the crate swap stores. Assumes nothing.
--     swapped16-*, ..         a list of bytes number by number, eight bytes at once, and at its end
--     two_bytes, four-words   a number's bytes, and the words of a 32-bit number
use Prim.Native.Nat.{ℕ, ◌+◌, ◌/◌, ◌%◌, ◌≤◌, ◌<◌}
use mathlib.Core.Path.{◌≡◌, refl, sym, ap, ap₂, ◌∙◌}
use mathlib.Core.List.{List, [], ◌∷◌, ◌++◌}
use native.Mathlib.Omega.{arith}
use lib.ListN.{length, drop, length-drop}
use Rattle.def_wire.specs.Bytes.{byte_at, two, four}
use Rattle.def_jobs.specs.Jobs.{le16, le32, low16, low32}
use Rattle.def_jobs.specs.Layout.{bytes_of}
use Rattle.utils.proofs.BytesLaws.{Bytes}
use Rattle.utils.proofs.StoresLaws.{two-low}
use Rattle.little_endian.proofs.LowLaws.{length-low16, pair_low-cons, pair_low-short, low32-cons}
use Rattle.little_endian.specs.Pieces.{Pieces}

-- the big-endian bytes of a list's numbers, and of those among eight bytes (swap/specs/Swapped.antt)
abbrev swapped16 : List ℕ → List ℕ
swapped16 s = bytes_of two (low16 s)

abbrev swapped32 : List ℕ → List ℕ
swapped32 s = bytes_of four (low32 s)

abbrev words4 : List ℕ → ℕ → List ℕ
words4 s k = two (le16 s k) ++ (two (le16 s (k + 2)) ++ (two (le16 s (k + 4)) ++ two (le16 s (k + 6))))

abbrev numbers2 : List ℕ → ℕ → List ℕ
numbers2 s k = four (le32 s k) ++ four (le32 s (k + 4))

-- ---- nothing is left
pub swapped16-end : (s : List ℕ) (k : ℕ) → length s < k + 2 → swapped16 (drop k s) ≡ []
swapped16-end s k h = ap (bytes_of two) (pair_low-short 256 (drop k s) (omega (arith, length-drop k s)))

pub swapped32-end : (s : List ℕ) (k : ℕ) → length s < k + 4 → swapped32 (drop k s) ≡ []
swapped32-end s k h =
    ap (bytes_of four) (pair_low-short 65536 (low16 (drop k s)) (omega
    (arith, length-low16 (drop k s), length-drop k s)))

-- ---- number by number, and eight bytes at once
module _ (s : List ℕ) where
  swapped16-one : (k : ℕ) → k + 2 ≤ length s → swapped16 (drop k s) ≡ two (le16 s k) ++ swapped16 (drop (k + 2) s)
  swapped16-one k h = ap (bytes_of two) (pair_low-cons 256 s k h)

  swapped32-one : (k : ℕ) → k + 4 ≤ length s → swapped32 (drop k s) ≡ four (le32 s k) ++ swapped32 (drop (k + 4) s)
  swapped32-one k h = ap (bytes_of four) (low32-cons s k h)

  swapped16-four : (k : ℕ) → k + 8 ≤ length s → swapped16 (drop k s) ≡ words4 s k ++ swapped16 (drop (k + 8) s)
  swapped16-four k h =
      let e4 : k + 4 ≡ k + 2 + 2 = omega arith in
      let e6 : k + 6 ≡ k + 2 + 2 + 2 = omega arith in
      let e8 : k + 8 ≡ k + 2 + 2 + 2 + 2 = omega arith in
      rw (e4, e6, e8)
      (swapped16-one k (omega arith)
      ∙ ap (λ (l : List ℕ). two (le16 s k) ++ l)
      (swapped16-one (k + 2) (omega arith)
      ∙ ap (λ (l : List ℕ). two (le16 s (k + 2)) ++ l)
      (swapped16-one (k + 2 + 2) (omega arith)
      ∙ ap (λ (l : List ℕ). two (le16 s (k + 2 + 2)) ++ l) (swapped16-one (k + 2 + 2 + 2) (omega arith)))))

  swapped32-two : (k : ℕ) → k + 8 ≤ length s → swapped32 (drop k s) ≡ numbers2 s k ++ swapped32 (drop (k + 8) s)
  swapped32-two k h =
      let e : k + 8 ≡ k + 4 + 4 = omega arith in
      rw e
      (swapped32-one k (omega arith)
      ∙ ap (λ (l : List ℕ). four (le32 s k) ++ l) (swapped32-one (k + 4) (omega arith)))

  -- the pieces that the loops store
  pub words : Pieces swapped16 s 2 (λ k. two (le16 s k))
  words = record { next = swapped16-one; size = λ k. refl }

  pub fours : Pieces swapped16 s 8 (words4 s)
  fours = record { next = swapped16-four; size = λ k. refl }

  pub numbers : Pieces swapped32 s 4 (λ k. four (le32 s k))
  numbers = record { next = swapped32-one; size = λ k. refl }

  pub pairs : Pieces swapped32 s 8 (numbers2 s)
  pairs = record { next = swapped32-two; size = λ k. refl }

-- ---- a number's bytes, and the two words of a 32-bit number
join : {a b c d : List ℕ} → a ≡ b → c ≡ d → a ++ c ≡ b ++ d
join e f = ap₂ (λ (x y : List ℕ). x ++ y) e f

module _ (s : List ℕ) (bytes : Bytes s) where
  pub two_bytes : (k : ℕ) → two (le16 s k) ≡ byte_at s (k + 1) ∷ byte_at s k ∷ []
  two_bytes k =
      ap₂ (λ (x y : ℕ). x ∷ y ∷ []) (omega (arith, bytes k, bytes (k + 1))) (omega (arith, bytes k, bytes (k + 1)))

  four-words : (k : ℕ) → four (le32 s k) ≡ two (le16 s (k + 2)) ++ two (le16 s k)
  four-words k =
      let low : le32 s k % 65536 ≡ le16 s k = omega (arith, bytes k, bytes (k + 1)) in
      let high : le32 s k / 65536 ≡ le16 s (k + 2) = omega (arith, bytes k, bytes (k + 1)) in
      join (ap two high) (sym (two-low (le32 s k)) ∙ ap two low)

  pub four_bytes : (k : ℕ) → four (le32 s k)
      ≡ byte_at s (k + 3) ∷ byte_at s (k + 2) ∷ byte_at s (k + 1) ∷ byte_at s k ∷ []
  four_bytes k =
      let e : k + 3 ≡ k + 2 + 1 = omega arith in
      rw e (four-words k ∙ join (two_bytes (k + 2)) (two_bytes k))

  -- eight bytes, turned round by twos and by fours
  pub words4_bytes : (k : ℕ) → words4 s k
      ≡ byte_at s (k + 1) ∷ byte_at s k ∷ byte_at s (k + 3) ∷ byte_at s (k + 2) ∷ byte_at s (k + 5) ∷ byte_at s (k + 4)
      ∷ byte_at s (k + 7) ∷ byte_at s (k + 6) ∷ []
  words4_bytes k =
      let e3 : k + 3 ≡ k + 2 + 1 = omega arith in
      let e5 : k + 5 ≡ k + 4 + 1 = omega arith in
      let e7 : k + 7 ≡ k + 6 + 1 = omega arith in
      rw (e3, e5, e7)
      (join (two_bytes k) (join (two_bytes (k + 2)) (join (two_bytes (k + 4)) (two_bytes (k + 6)))))

  pub numbers2_bytes : (k : ℕ) → numbers2 s k
      ≡ byte_at s (k + 3) ∷ byte_at s (k + 2) ∷ byte_at s (k + 1) ∷ byte_at s k ∷ byte_at s (k + 7) ∷ byte_at s (k + 6)
      ∷ byte_at s (k + 5) ∷ byte_at s (k + 4) ∷ []
  numbers2_bytes k =
      let e5 : k + 5 ≡ k + 4 + 1 = omega arith in
      let e6 : k + 6 ≡ k + 4 + 2 = omega arith in
      let e7 : k + 7 ≡ k + 4 + 3 = omega arith in
      rw (e5, e6, e7) (join (four_bytes k) (four_bytes (k + 4)))
