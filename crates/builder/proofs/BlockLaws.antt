-- The bytes of a block of each kind, put together from the parts that are stored. Assumes nothing.
use Prim.Native.Nat.{ℕ, ◌+◌, ◌*◌, ◌-◌, ◌/◌, ◌%◌, ◌≤◌, ◌<◌}
use mathlib.Core.Path.{◌≡◌, refl, ap, ◌∙◌}
use mathlib.Core.List.{List, ◌++◌}
use native.Mathlib.Omega.{arith}
use lib.ListN.{length, drop, replicate, length-append, length-replicate}
use lib.Seq.{sets}
use Rattle.laws.specs.Stores.{Wrote}
use Rattle.laws.proofs.Stores.{and_then, same}
use Rattle.def_wire.specs.declared.Rle.{Rle}
use Rattle.def_wire.specs.Bytes.{byte_at, two, four}
use Rattle.def_wire.specs.Block.{rle_type, receipt_type, clock_type, summary_type}
use Rattle.def_jobs.specs.declared.Layout.{Layout}
use Rattle.def_jobs.specs.Jobs.{le16, le32, le64, low16, job_words, job_times}
use Rattle.def_jobs.specs.Layout.{head, with_fields, words_bytes, zeros_behind}
use Rattle.utils.proofs.BytesLaws.{Bytes}
use Rattle.utils.proofs.StoresLaws.{four_low}
use Rattle.jobs.specs.Places.{job_of}
use Rattle.block_size.specs.Judged.{Fielded}
use Rattle.block_size.proofs.ZerosLaws.{length-words, length-times, zeros-most}
use Rattle.little_endian.proofs.LowLaws.{length-bytes_of}
use Rattle.swap.specs.Swapped.{swapped16, swapped32}
use Rattle.builder.specs.Blocks.{fields_in, fields_bytes, counts_bytes, hops_bytes, words_block, times_block}
use Rattle.builder.specs.Blocks.{clock_block, sums_block}
use Rattle.frame.proofs.FrameLaws.{piece, told}

-- the thinning's low byte is the whole thinning
thinning-low : (body : List ℕ) → (fields_in body).thinning ≤ 15 → byte_at body 8 ≡ (fields_in body).thinning
thinning-low body h = omega arith

pub fields-wrote : (body : List ℕ) {l m n o p : List ℕ} {at i : ℕ} (kind behind : ℕ) → (fields_in body).thinning ≤ 15
    → Wrote l at (head kind (byte_at body 8) behind) m i → n ≡ sets m i (four (le32 body 0))
    → o ≡ sets n (i + 4) (two (le16 body 4)) → p ≡ sets o (i + 4 + 2) (two (le16 body 6))
    → Wrote l at (fields_bytes kind (fields_in body) behind) p (i + 4 + 2 + 2)
fields-wrote body {l} {m} {n} {o} {p} {at} {i} kind behind h w x y z =
    and_then (told (ap (λ (t : ℕ). head kind t behind) (thinning-low body h)) w)
    (and_then (piece m n (four (le32 body 0)) i x)
    (and_then (piece n o (two (le16 body 4)) (i + 4) y) (piece o p (two (le16 body 6)) (i + 4 + 2) z)))

pub clock-wrote : (body : List ℕ) → Bytes body → {l m n o : List ℕ} {at i : ℕ} → Wrote l at (head clock_type 0 8) m i
    → n ≡ sets m i (four (le32 body 4)) → o ≡ sets n (i + 4) (four (le32 body 0))
    → Wrote l at (clock_block body) o (i + 4 + 4)
clock-wrote body bytes {l} {m} {n} {o} {at} {i} w x y =
    let t = le64 body 0 in
    let small : le32 body 0 < 4294967296 = omega (arith, bytes 0, bytes 1, bytes 2, bytes 3) in
    let high : le32 body 4 ≡ t / 4294967296 = omega arith in
    let low : le32 body 0 ≡ t % 4294967296 = omega arith in
    and_then w
    (and_then (told (ap four high) (piece m n (four (le32 body 4)) i x))
    (told (ap four low ∙ four_low t) (piece n o (four (le32 body 0)) (i + 4) y)))

-- six numbers, each stored four bytes behind the one before
number-wrote : (body : List ℕ) (k : ℕ) {l m : List ℕ} {at : ℕ} (next : ℕ) → next ≡ at + 4
    → m ≡ sets l at (four (le32 body k)) → Wrote l at (four (le32 body k)) m next
number-wrote body k next e x = record { stored = x; past = e }

pub counts-wrote : (body : List ℕ) {l m n o p q r : List ℕ} {at : ℕ} → m ≡ sets l at (four (le32 body 10))
    → n ≡ sets m (at + 4) (four (le32 body 14)) → o ≡ sets n (at + 8) (four (le32 body 18))
    → p ≡ sets o (at + 12) (four (le32 body 22)) → q ≡ sets p (at + 16) (four (le32 body 26))
    → r ≡ sets q (at + 20) (four (le32 body 30)) → Wrote l at (counts_bytes body) r (at + 24)
counts-wrote body {at = at} a b c d e f =
    and_then (number-wrote body 10 (at + 4) refl a)
    (and_then (number-wrote body 14 (at + 8) (omega arith) b)
    (and_then (number-wrote body 18 (at + 12) (omega arith) c)
    (and_then (number-wrote body 22 (at + 16) (omega arith) d)
    (and_then (number-wrote body 26 (at + 20) (omega arith) e) (number-wrote body 30 (at + 24) (omega arith) f)))))

pub sums-wrote : (body : List ℕ) {l m n o p q r : List ℕ} {at i j k : ℕ}
    → Wrote l at (head summary_type (byte_at body 0) 36) m i → n ≡ sets m i (four (le32 body 2))
    → o ≡ sets n (i + 4) (two (le16 body 6)) → p ≡ sets o (i + 4 + 2) (two (le16 body 8))
    → Wrote p (i + 4 + 2 + 2) (counts_bytes body) q j → Wrote q j (hops_bytes body) r k
    → Wrote l at (sums_block body) r k
sums-wrote body {m = m} {n} {o} {p} {i = i} w x y z c h =
    and_then w
    (and_then (piece m n (four (le32 body 2)) i x)
    (and_then (piece n o (two (le16 body 6)) (i + 4) y)
    (and_then (piece o p (two (le16 body 8)) (i + 4 + 2) z) (and_then c h))))

-- a block with fields, and what stands behind them
with-fields : (body rest : List ℕ) {l m n : List ℕ} {at i j : ℕ} (kind behind : ℕ) → behind ≡ 8 + length rest
    → Wrote l at (fields_bytes kind (fields_in body) behind) m i → Wrote m i rest n j
    → Wrote l at (with_fields kind (fields_in body) rest) n j
with-fields body rest kind behind e w x =
    told (ap (λ (b : ℕ). fields_bytes kind (fields_in body) b ++ rest) e) (and_then w x)

-- whole items: so many bytes
times-bytes : (body : List ℕ) → Fielded body 4 → length (swapped32 (drop 10 body)) ≡ length body - 10
times-bytes body f =
    let ts = job_times (job_of 1 body) in
    omega (arith, length-bytes_of four 4 (λ x. refl) ts, length-times (job_of 1 body), f.items)

pub times-wrote : (body : List ℕ) {l m n : List ℕ} {at i j : ℕ} → Fielded body 4
    → Wrote l at (fields_bytes receipt_type (fields_in body) (length body - 2)) m i
    → Wrote m i (swapped32 (drop 10 body)) n j → Wrote l at (times_block body) n j
times-wrote body f w x =
    with-fields body (swapped32 (drop 10 body)) receipt_type (length body - 2)
    (omega (arith, f.ten, times-bytes body f)) w x

-- words, and so many zero words behind them
module _ (layout : Layout) (a : Rle) (body : List ℕ) (f : Fielded body 2) (zeros : ℕ)
    (z : zeros ≡ zeros_behind layout (low16 (drop 10 body))) where
  pub few-zeros : zeros ≤ 2
  few-zeros = rw z (zeros-most (low16 (drop 10 body)) layout)

  words-bytes : length (swapped16 (drop 10 body)) ≡ length body - 10
  words-bytes =
      let ws = job_words (job_of 1 body) in
      omega (arith, length-bytes_of two 2 (λ x. refl) ws, length-words (job_of 1 body), f.items)

  behind-bytes : length (words_bytes layout (low16 (drop 10 body))) ≡ length (swapped16 (drop 10 body)) + 2 * zeros
  behind-bytes =
      let n = 2 * zeros_behind layout (low16 (drop 10 body)) in
      length-append (swapped16 (drop 10 body)) (replicate n 0) ∙ omega (arith, length-replicate {A = ℕ} n 0)

  module _ (kind : ℕ) (e : kind ≡ rle_type a) {l m : List ℕ} {at i : ℕ}
      (w : Wrote l at (fields_bytes kind (fields_in body) (length body - 2 + 2 * zeros)) m i) where
    -- behind the fields there is room for the rest
    pub words-room : at + length (words_block a layout body) ≤ length l
        → i + length (swapped16 (drop 10 body)) + 2 * zeros ≤ length m
    words-room h = omega (arith, w.past, same w, behind-bytes)

    pub words-wrote : {n o : List ℕ} {j r : ℕ} → Wrote m i (swapped16 (drop 10 body)) n j
        → Wrote n j (replicate (2 * zeros) 0) o r → Wrote l at (words_block a layout body) o r
    words-wrote x y =
        rw (← e)
        (with-fields body (words_bytes layout (low16 (drop 10 body))) kind (length body - 2 + 2 * zeros)
        (omega (arith, f.ten, words-bytes, behind-bytes)) w
        (and_then x (told (ap (λ (k : ℕ). replicate (2 * k) 0) z) y)))
