-- Bytes stored at an index, as far as there is room, and the bytes of a number's low half. Assumes nothing.
use Rattle.std.proofs.Common.{◌≡◌, ℕ, suc, ◌+◌, ◌/◌, ◌%◌, ◌<◌, ◌≤◌, List, [], ◌∷◌, ◌++◌, length, get_or, set, sym, refl, ap, ◌∙◌, ap₂, arith, length-take, take, drop, append_assoc, length-drop, drop-drop}
use lib.Seq.{sets, set_out, sets-eq, length-sets}
use Rattle.std.proofs.lemmas.List.{take_more, set_past}
use borrow.Rule.Slice.PartMut.{put_mid, mid_of}
use Rattle.laws.proofs.Stores.{sets-append}
use Rattle.def_wire.specs.Bytes.{two, four}

-- stores past the end do nothing
pub sets-out : {A : Type 0} (l : List A) (i : ℕ) (vs : List A) → length l ≤ i → sets l i vs ≡ l
sets-out l i [] h = refl
sets-out l i (v ∷ vs) h = rw (set_out l i v h) (sets-out l (suc i) vs (omega arith))

-- what stands in the place of a part was stored there
pub sets_mid : (l ys vs : List ℕ) (i k : ℕ) → i + k ≤ length l → length ys ≡ length (mid_of i k l) → ys ≡ vs
    → put_mid i k l ys ≡ sets l i vs
sets_mid l ys vs i k h n e =
    let m : length vs ≡ k = omega (arith, n, ap length e, length-take k (drop i l), length-drop i l) in
    rw (e, sets-eq vs l i (omega arith), append_assoc, m, drop-drop)

-- one byte more
pub sets_more : (l vs : List ℕ) (i k : ℕ) → k < length vs
    → set (sets l i (take k vs)) (i + k) (get_or vs k 0) ≡ sets l i (take (k + 1) vs)
sets_more l vs i k h =
    sets-append (take k vs) (get_or vs k 0 ∷ []) l i (i + k) (omega (arith, length-take k vs))
    ∙ ap (sets l i) (sym (take_more vs k 0 h))

-- past the end it is left out
pub sets_past : (l vs : List ℕ) (i k : ℕ) → k < length vs → length l ≤ i + k
    → sets l i (take k vs) ≡ sets l i (take (k + 1) vs)
sets_past l vs i k h p =
    sym (set_past (sets l i (take k vs)) (i + k) (get_or vs k 0) (omega (arith, length-sets l i (take k vs))))
    ∙ sets_more l vs i k h

-- a number's bytes are those of its low half
pub two-low : (x : ℕ) → two (x % 65536) ≡ two x
two-low x = ap₂ (λ (a b : ℕ). a ∷ b ∷ []) (omega arith) (omega arith)

pub four_low : (x : ℕ) → four (x % 4294967296) ≡ four x
four_low x =
    let y = x % 4294967296 in
    ap₂ (λ (a b : List ℕ). a ++ b) (sym (two-low (y / 65536)) ∙ ap two (omega arith) ∙ two-low (x / 65536))
    (sym (two-low y) ∙ ap two (omega arith) ∙ two-low x)
