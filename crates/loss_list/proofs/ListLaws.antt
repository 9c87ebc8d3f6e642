-- The job list of one loss record, put together from the parts that are stored. Assumes nothing.
--     part-stored                      a part that another list is copied into
--     list_wrote                       both records
--     length-words, length-loss_list    how many bytes there are
use Rattle.std.proofs.Common.{append_assoc, drop-drop, take, drop}
use lib.Seq.{sets-eq}
use borrow.Rule.Slice.PartMut.{put_mid}
use Prim.Native.Nat.{ℕ, ◌+◌, ◌*◌, ◌≤◌}
use mathlib.Core.Path.{◌≡◌, refl}
use mathlib.Core.List.{List, ◌++◌}
use native.Mathlib.Omega.{arith}
use lib.ListN.{length}
use Rattle.def_jobs.specs.Layout.{bytes_of}
use Rattle.def_marks.specs.Report.{low2, low4, header_bytes, loss_list}
use Rattle.little_endian.proofs.LowLaws.{length-bytes_of}
use Rattle.laws.specs.Stores.{Wrote}
use Rattle.laws.proofs.Stores.{and_then}

-- a part of k bytes that holds a list of as many now
pub part-stored : {l vs ys : List ℕ} {at k : ℕ} → k ≡ length vs → at + length vs ≤ length l → ys ≡ vs
    → Wrote l at vs (put_mid at k l ys) (at + length vs)
part-stored {l} {vs} {ys} {at} {k} j h e =
    record {
      stored = rw (e, j, drop-drop (length vs) at l, ← append_assoc (take at l) vs (drop (at + length vs) l), sets-eq vs l at h);
      past = refl;
    }

pub length-words : (ws : List ℕ) → length (bytes_of low2 ws) ≡ length ws * 2
length-words = length-bytes_of low2 2 (λ x. refl)

-- both records, stored part by part
pub list_wrote : (sender media b e : ℕ) (ws : List ℕ) {l m n o p : List ℕ} {at i j k r : ℕ}
    → Wrote l at (header_bytes sender) m i → Wrote m i (low4 (10 + 2 * length ws) ++ low2 1) n j
    → Wrote n j (low4 media ++ (low2 b ++ (low2 e ++ low2 0))) o k → Wrote o k (bytes_of low2 ws) p r
    → Wrote l at (loss_list sender media b e ws) p r
unfolding loss_list
list_wrote sender media b e ws v w x y =
    let body = low4 media ++ (low2 b ++ (low2 e ++ (low2 0 ++ bytes_of low2 ws))) in
    let size : length body ≡ 10 + 2 * length ws = omega (arith, length-words ws) in
    rw size (and_then v (and_then w (and_then x y)))

pub length-loss_list : (sender media b e : ℕ) (ws : List ℕ)
    → length (loss_list sender media b e ws) ≡ 28 + 2 * length ws
unfolding loss_list
length-loss_list sender media b e ws = omega (arith, length-words ws)
