-- The laws of def_wire's big-endian numbers and words: the one place that unfolds `pair_up`. Assumes nothing.
--     Bytes, be16-lt          bytes below 256 make a number below its limit
--     Same, be16-same, ..     the same bytes elsewhere (in a part) are the same number
--     be16-two, ..            a number's bytes read back
--     pair_up-*, words32-*     a list of bytes word by word, and its length in words
use Rattle.std.proofs.Common.{◌≡◌, ℕ, zero, suc, ◌+◌, ◌*◌, ◌/◌, ◌%◌, ◌^◌, ◌<◌, ◌≤◌, List, [], ◌∷◌, ◌++◌, length, get_or, take, drop, sym, refl, ap, ◌∙◌, ap₂, add-zero, mod-eq_of_lt, add-one, arith, lit<, length-drop, get_or-drop, drop-cons, get_or-take}
use lib.Arith.{mod-mul}
use Rattle.def_wire.specs.Bytes.{byte_at, be16, be32, be64, pair_up, words16, words32, two, four, eight}

-- ---- numbers

-- bytes are below 256
abbrev pub Bytes : List ℕ → Type 0
Bytes s = (i : ℕ) → get_or s i 0 < 256

pub be16-lt : (s : List ℕ) (at : ℕ) → Bytes s → be16 s at < 65536
be16-lt s at h = omega (arith, h at, h (at + 1))

-- ---- the same bytes elsewhere

-- the n bytes of s from i on are those of t from j on
abbrev pub Same : ℕ → List ℕ → ℕ → List ℕ → ℕ → Type 0
Same n s i t j = (q : ℕ) → q < n → byte_at s (i + q) ≡ byte_at t (j + q)

-- the same bytes are the same number
pub be16-same : (s : List ℕ) (i : ℕ) (t : List ℕ) (j : ℕ) → Same 2 s i t j → be16 s i ≡ be16 t j
be16-same s i t j h =
    let e : byte_at s i ≡ byte_at t j = simp add-zero at (h 0 (omega arith)) in rw (e, h 1 (omega arith))

-- in what is left from k on
pub same_drop : (m k : ℕ) (s : List ℕ) (i : ℕ) → Same m (drop k s) i s (k + i)
same_drop m k s i q h = let e : k + i + q ≡ k + (i + q) = omega arith in rw e (get_or-drop k s (i + q) 0)

-- in a part of n bytes from k on
pub same-part : (m k n : ℕ) (s : List ℕ) (i : ℕ) → i + m ≤ n → Same m (take n (drop k s)) i s (k + i)
same-part m k n s i l q h = get_or-take n (drop k s) (i + q) 0 (omega arith) ∙ same_drop m k s i q h

-- the number in a part is the number in the whole
pub be16-part : (k n : ℕ) (s : List ℕ) (i : ℕ) → i + 2 ≤ n → be16 (take n (drop k s)) i ≡ be16 s (k + i)
be16-part k n s i h = be16-same (take n (drop k s)) i s (k + i) (same-part 2 k n s i h)

-- ---- a number's bytes read back

two_back : (x : ℕ) (s : List ℕ) → be16 (two x ++ s) 0 ≡ x % 65536
two_back x s = sym (mod-mul x {m = 256} {c = 256} (lit< tt) (lit< tt))

four-back : (x : ℕ) (s : List ℕ) → be32 (four x ++ s) 0 ≡ x % 4294967296
four-back x s =
    ap₂ (λ (a b : ℕ). a * 65536 + b) (two_back (x / 65536) (two x ++ s)) (two_back x s)
    ∙ sym (mod-mul x {m = 65536} {c = 65536} (lit< tt) (lit< tt))

eight-back : (x : ℕ) (s : List ℕ) → be64 (eight x ++ s) 0 ≡ x % 2 ^ 64
eight-back x s =
    ap₂ (λ (a b : ℕ). a * 4294967296 + b) (four-back (x / 4294967296) (four x ++ s)) (four-back x s)
    ∙ sym (mod-mul x {m = 4294967296} {c = 4294967296} (lit< tt) (lit< tt))

pub be16-two : (x : ℕ) (s : List ℕ) → x < 65536 → be16 (two x ++ s) 0 ≡ x
be16-two x s h = two_back x s ∙ mod-eq_of_lt h

pub be32-four : (x : ℕ) (s : List ℕ) → x < 4294967296 → be32 (four x ++ s) 0 ≡ x
be32-four x s h = four-back x s ∙ mod-eq_of_lt h

pub be64-eight : (x : ℕ) (s : List ℕ) → x < 2 ^ 64 → be64 (eight x ++ s) 0 ≡ x
be64-eight x s h = eight-back x s ∙ mod-eq_of_lt h

-- ---- words

-- from an index with two whole elements behind it on
pub pair_up-cons : (b : ℕ) (s : List ℕ) (at : ℕ) → at + 2 ≤ length s
    → pair_up b (drop at s) ≡ (get_or s at 0 * b + get_or s (at + 1) 0) ∷ pair_up b (drop (at + 2) s)
unfolding pair_up
pair_up-cons b s at h =
    let i : at < length s = omega arith in
    let j : suc at < length s = omega arith in
    let e : at + 2 ≡ suc (suc at) = omega arith in
    rw (e, add-one, drop-cons s at 0 i, drop-cons s (suc at) 0 j)

pair_up-short : (b : ℕ) (s : List ℕ) → length s ≤ 1 → pair_up b s ≡ []
unfolding pair_up
pair_up-short b [] h = refl
pair_up-short b (x ∷ []) h = refl
pair_up-short b (x ∷ y ∷ s) h = absurd (omega arith)

-- fewer than two are left
pub pair_up-end : (b : ℕ) (s : List ℕ) (at : ℕ) → length s ≤ at + 1 → pair_up b (drop at s) ≡ []
pair_up-end b s at h = pair_up-short b (drop at s) (omega (arith, length-drop at s))

pub length-pair_up : (b : ℕ) (s : List ℕ) → length (pair_up b s) ≡ length s / 2
unfolding pair_up
length-pair_up b [] = refl
length-pair_up b (x ∷ []) = refl
length-pair_up b (x ∷ y ∷ s) = let e = length-pair_up b s in omega arith

pub get_or-pair_up : (b : ℕ) (s : List ℕ) (i : ℕ) → i < length s / 2
    → get_or (pair_up b s) i 0 ≡ get_or s (2 * i) 0 * b + get_or s (2 * i + 1) 0
unfolding pair_up
get_or-pair_up b [] i h = absurd (omega arith)
get_or-pair_up b (x ∷ []) i h = absurd (omega arith)
get_or-pair_up b (x ∷ y ∷ s) zero h = refl
get_or-pair_up b (x ∷ y ∷ s) (suc i) h =
    let e : 2 * suc i ≡ suc (suc (2 * i)) = omega arith in
    let k : suc (suc (2 * i)) + 1 ≡ suc (suc (2 * i + 1)) = omega arith in
    rw (e, k) (get_or-pair_up b s i (omega arith))

-- from an index with four whole bytes behind it on
pub words32-cons : (s : List ℕ) (at : ℕ) → at + 4 ≤ length s
    → words32 (drop at s) ≡ be32 s at ∷ words32 (drop (at + 4) s)
unfolding pair_up
words32-cons s at h =
    let e : at + 4 ≡ at + 2 + 2 = omega arith in
    let i : at + 2 ≤ length s = omega arith in
    let j : at + 2 + 2 ≤ length s = omega arith in
    rw (e, pair_up-cons 256 s at i, pair_up-cons 256 s (at + 2) j)

pub length-words32 : (s : List ℕ) → length (words32 s) ≡ length s / 4
length-words32 s = omega (arith, length-pair_up 65536 (words16 s), length-pair_up 256 s)

-- a number's bytes in front make a word
pub words16-two : (x : ℕ) (s : List ℕ) → x < 65536 → words16 (two x ++ s) ≡ x ∷ words16 s
unfolding pair_up
words16-two x s h = ap (λ (w : ℕ). w ∷ words16 s) (be16-two x s h)

pub words32-four : (x : ℕ) (s : List ℕ) → x < 4294967296 → words32 (four x ++ s) ≡ x ∷ words32 s
unfolding pair_up
words32-four x s h = ap (λ (w : ℕ). w ∷ words32 s) (be32-four x s h)
