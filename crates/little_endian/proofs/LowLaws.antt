-- The laws of def_jobs' little-endian numbers and words. Assumes nothing.
--     le16-drop, ..            the number in what is left from a place on
--     length-low16, ..         how many words a list of bytes has
--     get_or-low16               a word is the number of its two bytes
--     pair_low-cons, ..         words one by one, from an index on
--     length-bytes_of           how many bytes numbers of so many bytes each are written as
use Prim.Native.Nat.{ℕ, zero, suc, ◌+◌, ◌*◌, ◌/◌, ◌≤◌, ◌<◌, min}
use mathlib.Core.Path.{◌≡◌, refl, sym, ap, ap₂, ◌∙◌}
use mathlib.Core.List.{List, [], ◌∷◌}
use native.Mathlib.Nat.{add_assoc, add-zero, suc-mul}
use native.Mathlib.Numerals.{add-one}
use native.Mathlib.Omega.{arith}
use lib.ListN.{length, get_or, drop, length-append}
use lib.Seq.{get_or-drop, drop-cons}
use Rattle.utils.proofs.PartLaws.{drop-cut}
use Rattle.def_wire.specs.Bytes.{byte_at}
use Rattle.def_jobs.specs.Jobs.{le16, le32, pair_low, low16, low32}
use Rattle.def_jobs.specs.Layout.{bytes_of}

-- ---- numbers

-- in what is left from k on
pub le16-drop : (k : ℕ) (s : List ℕ) (i : ℕ) → le16 (drop k s) i ≡ le16 s (k + i)
le16-drop k s i =
    ap₂ (λ (a b : ℕ). a + b * 256) (get_or-drop k s i 0)
    (get_or-drop k s (i + 1) 0 ∙ ap (byte_at s) (sym (add_assoc k i 1)))

pub le32-drop : (k : ℕ) (s : List ℕ) (i : ℕ) → le32 (drop k s) i ≡ le32 s (k + i)
le32-drop k s i =
    ap₂ (λ (a b : ℕ). a + b * 65536) (le16-drop k s i) (le16-drop k s (i + 2) ∙ ap (le16 s) (sym (add_assoc k i 2)))

-- the first number of what is left, and one behind it, also where nothing is left
pub le32-here : (k : ℕ) (s : List ℕ) → le32 (drop k s) 0 ≡ le32 s k
le32-here k s = le32-drop k s 0 ∙ ap (le32 s) (add-zero k)

pub le16-cut : (k : ℕ) (s : List ℕ) (m i : ℕ) → m ≡ min k (length s) → le16 s (m + i) ≡ le16 (drop k s) i
le16-cut k s m i e = sym (le16-drop m s i) ∙ ap (λ (l : List ℕ). le16 l i) (drop-cut s k m e)

-- ---- words

pub length-pair_low : (b : ℕ) (s : List ℕ) → length (pair_low b s) ≡ length s / 2
unfolding pair_low
length-pair_low b [] = refl
length-pair_low b (x ∷ []) = refl
length-pair_low b (x ∷ y ∷ s) = let e = length-pair_low b s in omega arith

pub length-low16 : (s : List ℕ) → length (low16 s) ≡ length s / 2
length-low16 s = length-pair_low 256 s

pub length-low32 : (s : List ℕ) → length (low32 s) ≡ length s / 4
length-low32 s = omega (arith, length-pair_low 65536 (low16 s), length-pair_low 256 s)

pub get_or-pair_low : (b : ℕ) (s : List ℕ) (i : ℕ) → i < length s / 2
    → get_or (pair_low b s) i 0 ≡ get_or s (2 * i) 0 + get_or s (2 * i + 1) 0 * b
unfolding pair_low
get_or-pair_low b [] i h = absurd (omega arith)
get_or-pair_low b (x ∷ []) i h = absurd (omega arith)
get_or-pair_low b (x ∷ y ∷ s) zero h = refl
get_or-pair_low b (x ∷ y ∷ s) (suc i) h =
    let e : 2 * suc i ≡ suc (suc (2 * i)) = omega arith in
    let k : suc (suc (2 * i)) + 1 ≡ suc (suc (2 * i + 1)) = omega arith in
    rw (e, k) (get_or-pair_low b s i (omega arith))

-- a word is the number of its two bytes
pub get_or-low16 : (s : List ℕ) (i : ℕ) → i < length s / 2 → get_or (low16 s) i 0 ≡ le16 s (2 * i)
get_or-low16 s i h = get_or-pair_low 256 s i h

-- from an index with two whole elements behind it on
pub pair_low-cons : (b : ℕ) (s : List ℕ) (at : ℕ) → at + 2 ≤ length s
    → pair_low b (drop at s) ≡ (get_or s at 0 + get_or s (at + 1) 0 * b) ∷ pair_low b (drop (at + 2) s)
unfolding pair_low
pair_low-cons b s at h =
    let i : at < length s = omega arith in
    let j : suc at < length s = omega arith in
    let e : at + 2 ≡ suc (suc at) = omega arith in
    rw (e, add-one, drop-cons s at 0 i, drop-cons s (suc at) 0 j)

pub pair_low-short : (b : ℕ) (s : List ℕ) → length s ≤ 1 → pair_low b s ≡ []
unfolding pair_low
pair_low-short b [] h = refl
pair_low-short b (x ∷ []) h = refl
pair_low-short b (x ∷ y ∷ s) h = absurd (omega arith)

pub low32-cons : (s : List ℕ) (at : ℕ) → at + 4 ≤ length s → low32 (drop at s) ≡ le32 s at ∷ low32 (drop (at + 4) s)
unfolding pair_low
low32-cons s at h =
    let e : at + 4 ≡ at + 2 + 2 = omega arith in
    let i : at + 2 ≤ length s = omega arith in
    let j : at + 2 + 2 ≤ length s = omega arith in
    rw (e, pair_low-cons 256 s at i, pair_low-cons 256 s (at + 2) j)

-- ---- numbers written as bytes

pub length-bytes_of : (put : ℕ → List ℕ) (k : ℕ) → ((x : ℕ) → length (put x) ≡ k) → (xs : List ℕ)
    → length (bytes_of put xs) ≡ length xs * k
length-bytes_of put k h [] = sym (omega arith)
length-bytes_of put k h (x ∷ xs) =
    length-append (put x) (bytes_of put xs)
    ∙ (let a = h x in let e = length-bytes_of put k h xs in omega (arith, a, e, suc-mul (length xs) k))
