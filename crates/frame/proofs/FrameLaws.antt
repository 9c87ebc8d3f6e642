-- A packet's first bytes, zero bytes, and padding. Assumes nothing.
--     piece, told              a store known by an equation, and the same list told otherwise
--     part-stored              a part filled with zeros is a store of zeros
--     padding_bytes-last        the padding: zeros, and the count
--     header-wrote             a packet's first eight bytes
use Prim.Native.Nat.{ℕ, zero, suc, ◌+◌, ◌*◌, ◌-◌, ◌/◌, ◌%◌, ◌≤◌, ◌<◌}
use mathlib.Core.Path.{◌≡◌, refl, ap, ap₂, ◌∙◌}
use mathlib.Core.List.{List, [], ◌∷◌, ◌++◌}
use native.Mathlib.Omega.{arith}
use lib.Dec.{eqb, lit<}
use lib.ListN.{length, replicate, take, drop}
use Rattle.std.proofs.Common.{append_assoc, drop-drop, length-drop}
use Rattle.std.proofs.lemmas.List.{length-replicate, length-take-le}
use borrow.Rule.Slice.PartMut.{put_mid}
use lib.Seq.{sets, sets-eq}
use Rattle.def_wire.specs.Bytes.{two, four}
use Rattle.laws.specs.Stores.{Wrote}
use Rattle.laws.proofs.Tests.{both}
use Rattle.laws.proofs.Stores.{and_then}
use Rattle.utils.proofs.StoresLaws.{two-low}
use Rattle.def_jobs.specs.Layout.{first_byte, padding_bytes}

-- a store whose equation is known, with the index past it
pub piece : (l m vs : List ℕ) (n : ℕ) → m ≡ sets l n vs → Wrote l n vs m (n + length vs)
piece l m vs n e = record { stored = e; past = refl }

-- the same list, told otherwise
pub told : {l m a b : List ℕ} {i j : ℕ} → a ≡ b → Wrote l i a m j → Wrote l i b m j
told e w = rw (← e) w

-- a part that holds so many zeros now, where it held k bytes before
pub part-stored : {l ys : List ℕ} {at n k : ℕ} → k ≡ n → at + n ≤ length l
    → ys ≡ replicate (length (take k (drop at l))) 0 → Wrote l at (replicate n 0) (put_mid at k l ys) (at + n)
part-stored {l} {ys} {at} {n} {k} j h e =
    let r : length (replicate {A = ℕ} n 0) ≡ n = length-replicate n 0 in
    let m : length (take k (drop at l)) ≡ n = length-take-le k (drop at l) (omega (arith, length-drop at l)) ∙ j in
    record {
      stored = rw (e, m, j, drop-drop n at l, ← append_assoc (take at l) (replicate n 0) (drop (at + n) l), sets-eq (replicate {A = ℕ} n 0) l at (omega arith), r);
      past = rw r;
    }

-- the count is the last byte
pub padding_bytes-last : (n : ℕ) → 0 < n → replicate (n - 1) 0 ++ (n ∷ []) ≡ padding_bytes n
padding_bytes-last zero h = absurd (omega arith)
padding_bytes-last (suc n) h = let e : suc n - 1 ≡ n = omega arith in rw e

first_byte-lt : (padding : ℕ) → first_byte padding < 256
first_byte-lt padding = both (λ (x : ℕ). x < 256) (eqb padding 0) (λ t. lit< tt) (λ f. lit< tt)

-- a packet's first eight bytes, stored two, two and four at a time
pub header-wrote : (l m n o : List ℕ) (padding size sender first pair left : ℕ) → first ≡ first_byte padding
    → pair ≡ first * 256 + 207 → left ≡ size - 4
    → m ≡ sets l 0 (two pair) → n ≡ sets m 2 (two (left / 4 % 65536)) → o ≡ sets n 4 (four sender)
    → Wrote l 0 (first_byte padding ∷ 207 ∷ two ((size - 4) / 4) ++ four sender) o 8
header-wrote l m n o padding size sender first pair left d e f p q r =
    let k : two pair ≡ first_byte padding ∷ 207 ∷ [] =
    ap₂ (λ (a b : ℕ). a ∷ b ∷ []) (omega (arith, first_byte-lt padding)) (omega arith) in
    and_then (told k (piece l m (two pair) 0 p))
    (and_then
    (told (two-low (left / 4) ∙ ap (λ (y : ℕ). two (y / 4)) f) (piece m n (two (left / 4 % 65536)) 2 q))
    (piece n o (four sender) 4 r))
