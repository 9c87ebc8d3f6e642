-- The job list of one loss record: its two records, and what they ask. The one place that unfolds `loss_list`. Assumes
-- nothing.
--     list-bytes        it is bytes
--     list-jobs         its records
--     loss-fields, ..   what the second asks for
--     list-good         neither is bad, where no word is a run of no length
use Rattle.std.specs.Prelude.{Ok}
use Prim.Native.Nat.{ℕ, zero, suc, ◌+◌, ◌*◌, ◌-◌, ◌/◌, ◌%◌, ◌≤◌, ◌<◌}
use mathlib.Core.Path.{◌≡◌, refl, sym, ap, subst, ◌∙◌}
use mathlib.Core.Bool.{true, false}
use mathlib.Core.List.{List, [], ◌∷◌, ◌++◌, append-nil}
use native.Mathlib.Omega.{arith}
use lib.ListN.{length, drop, length-append}
use lib.Seq.{take-append_seam, drop-append_seam, drop-drop}
use borrow.Author.Tests.{le-leb, lt-leb}
use Rattle.def_wire.specs.Block.{rle_of, ranged_of, kind_of, lost_run, has}
use Rattle.def_jobs.specs.Jobs.{le16, le32, pair_low, Job, is_whole, job_at, jobs_from, jobs_of, sender_of}
use Rattle.def_jobs.specs.Jobs.{is_header_job, job_fields, job_words, is_block_job, jobs_fault}
use Rattle.def_jobs.specs.Layout.{bytes_of}
use Rattle.def_marks.specs.Report.{low2, low4, record_bytes, loss_bytes, loss_list}
use Rattle.utils.proofs.BytesLaws.{Bytes}
use Rattle.little_endian.proofs.LowLaws.{length-bytes_of}
use Rattle.written.proofs.Lists.{Under}

-- ---- little-endian numbers

low2-back : (x : ℕ) (s : List ℕ) → x < 65536 → le16 (low2 x ++ s) 0 ≡ x
low2-back x s h = omega arith

low4-back : (x : ℕ) (s : List ℕ) → x < 4294967296 → le32 (low4 x ++ s) 0 ≡ x
low4-back x s h = omega arith

words_back : (ws : List ℕ) → Under 65536 ws → pair_low 256 (bytes_of low2 ws) ≡ ws
unfolding pair_low
words_back [] u = refl
words_back (w ∷ ws) u =
    let e : w % 256 + w / 256 % 256 * 256 ≡ w = omega (arith, u 0) in rw (e, words_back ws (λ i. u (suc i)))

-- ---- a record, and what stands behind it

module _ (kind : ℕ) (body rest : List ℕ) (k : kind < 65536) (b : length body < 4294967296) where
  abbrev here : List ℕ
  here = record_bytes kind body ++ rest

  size-here : le32 here 0 ≡ length body
  size-here = low4-back (length body) ((low2 kind ++ body) ++ rest) b

  kind-here : le16 here 4 ≡ kind
  kind-here = low2-back kind (body ++ rest) k

  job-here : job_at here ≡ record { kind = kind; body = body }
  job-here = rw (size-here, kind-here, take-append_seam body rest)

  long-here : length here ≡ 6 + length body + length rest
  long-here = omega (arith, length-append body rest)

  whole_here : is_whole here ≡ true
  whole_here =
      rw (
        size-here,
        le-leb 6 (length here) (omega (arith, long-here)),
        le-leb (length body) (length here - 6) (omega (arith, long-here)),
      )

  behind-here : drop (6 + le32 here 0) here ≡ rest
  behind-here = rw (size-here, ← drop-drop (length body) 6 here) (drop-append_seam body rest)

  pub jobs-more : (fuel : ℕ) → 0 < length rest
      → jobs_from (suc fuel) here ≡ record { kind = kind; body = body } ∷ jobs_from fuel rest
  unfolding jobs_from
  jobs-more fuel some =
      rw (
        whole_here,
        job-here,
        behind-here,
        size-here,
        lt-leb (length here) (6 + length body) (omega (arith, long-here)),
      )

  pub jobs-last : (fuel : ℕ) → length rest ≡ 0
      → jobs_from (suc fuel) here ≡ record { kind = kind; body = body } ∷ []
  unfolding jobs_from
  jobs-last fuel none =
      rw (whole_here, job-here, size-here, le-leb (length here) (6 + length body) (omega (arith, long-here)))

-- ---- the two records

abbrev pub header_job : ℕ → Job
header_job sender = record { kind = 0; body = low4 sender ++ low2 0 }

abbrev pub loss_job : ℕ → ℕ → ℕ → List ℕ → Job
loss_job media b e ws =
    record { kind = 1; body = low4 media ++ (low2 b ++ (low2 e ++ (low2 0 ++ bytes_of low2 ws))) }

module _ (sender media b e : ℕ) (ws : List ℕ) (few : length ws ≤ 65536) where
  pub list-jobs : jobs_of (loss_list sender media b e ws) ≡ header_job sender ∷ loss_job media b e ws ∷ []
  unfolding loss_list
  list-jobs =
      let body : List ℕ = (loss_job media b e ws).body in
      let w = length-bytes_of low2 2 (λ x. refl) ws in
      jobs-more 0 (header_job sender).body (loss_bytes media b e ws) (omega arith) (omega arith) _ (omega arith)
      ∙ ap (λ (js : List Job). header_job sender ∷ js)
      (rw (← append-nil (loss_bytes media b e ws)) (jobs-last 1 body [] (omega arith) (omega arith) _ refl))

-- ---- bytes

under-cons : (b x : ℕ) (s : List ℕ) → x < b → Under b s → Under b (x ∷ s)
under-cons b x s h u zero = h
under-cons b x s h u (suc i) = u i

bytes-low2 : (x : ℕ) (s : List ℕ) → Bytes s → Bytes (low2 x ++ s)
bytes-low2 x s u =
    under-cons 256 (x % 256) (x / 256 % 256 ∷ s) (omega arith) (under-cons 256 (x / 256 % 256) s (omega arith) u)

bytes-low4 : (x : ℕ) (s : List ℕ) → Bytes s → Bytes (low4 x ++ s)
bytes-low4 x s u = bytes-low2 x (low2 (x / 65536) ++ s) (bytes-low2 (x / 65536) s u)

bytes-none : Bytes []
bytes-none i = omega arith

bytes-words : (ws : List ℕ) → Bytes (bytes_of low2 ws)
bytes-words [] = bytes-none
bytes-words (w ∷ ws) = bytes-low2 w (bytes_of low2 ws) (bytes-words ws)

pub header-bytes : (sender : ℕ) → Bytes (header_job sender).body
header-bytes sender = bytes-low4 sender (low2 0) (bytes-low2 0 [] bytes-none)

pub loss-bytes : (media b e : ℕ) (ws : List ℕ) → Bytes (loss_job media b e ws).body
loss-bytes media b e ws =
    let w : List ℕ = low2 0 ++ bytes_of low2 ws in
    bytes-low4 media (low2 b ++ (low2 e ++ w))
    (bytes-low2 b (low2 e ++ w) (bytes-low2 e w (bytes-low2 0 (bytes_of low2 ws) (bytes-words ws))))

-- a record's bytes, in front of bytes
bytes-record : (kind : ℕ) (body rest : List ℕ) → Bytes (body ++ rest) → Bytes (record_bytes kind body ++ rest)
bytes-record kind body rest u =
    bytes-low4 (length body) (low2 kind ++ (body ++ rest)) (bytes-low2 kind (body ++ rest) u)

pub list-bytes : (sender media b e : ℕ) (ws : List ℕ) → Bytes (loss_list sender media b e ws)
unfolding loss_list
list-bytes sender media b e ws =
    let loss : List ℕ = loss_bytes media b e ws in
    let body : List ℕ = (loss_job media b e ws).body in
    bytes-record 0 (low4 sender ++ low2 0) loss
    (bytes-low4 sender (low2 0 ++ loss)
    (bytes-low2 0 loss
    (subst Bytes (append-nil loss)
    (bytes-record 1 body [] (subst Bytes (sym (append-nil body)) (loss-bytes media b e ws))))))

-- ---- what they ask

pub header-sender : (sender : ℕ) → sender < 4294967296 → sender_of (header_job sender) ≡ sender
header-sender sender h = low4-back sender (low2 0) h

pub header-good : (sender : ℕ) → is_header_job (header_job sender) ≡ true
unfolding is_header_job
header-good sender = refl

module _ (media b e : ℕ) (ws : List ℕ) where
  pub loss-fields : media < 4294967296 → b < 65536 → e < 65536
      → job_fields (loss_job media b e ws) ≡ record { ssrc = media; begin = b; end = e; thinning = 0 }
  loss-fields m h k =
      rw (
        low4-back media (low2 b ++ (low2 e ++ (low2 0 ++ bytes_of low2 ws))) m,
        low2-back b (low2 e ++ (low2 0 ++ bytes_of low2 ws)) h,
        low2-back e (low2 0 ++ bytes_of low2 ws) k,
      )

  pub loss-words : Under 65536 ws → job_words (loss_job media b e ws) ≡ ws
  loss-words = words_back ws

  pub length-loss : length (loss_job media b e ws).body ≡ 10 + 2 * length ws
  length-loss = omega (arith, length-bytes_of low2 2 (λ x. refl) ws)

  pub loss-good : has lost_run (job_words (loss_job media b e ws)) ≡ false → is_block_job (loss_job media b e ws) ≡ true
  unfolding is_block_job kind_of ranged_of rle_of
  loss-good c =
      let n = length-loss in
      let r : (length (loss_job media b e ws).body - 10) % 2 ≡ 0 = omega (arith, n) in
      rw (le-leb 10 (length (loss_job media b e ws).body) (omega (arith, n)), r, c)

pub list-good : (sender media b e : ℕ) (ws : List ℕ) → has lost_run (job_words (loss_job media b e ws)) ≡ false
    → jobs_fault 0 (header_job sender ∷ loss_job media b e ws ∷ []) ≡ Ok tt
unfolding jobs_fault
list-good sender media b e ws c = rw (header-good sender, loss-good media b e ws c)
