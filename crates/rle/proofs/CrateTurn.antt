-- One turn of the crate's list: the word at an index of the bytes. Assumes nothing.
--     turn           the word at hand, and then the rest
--     most-*         the bound on what words list
use Prim.Native.Nat.{ℕ, ◌+◌, ◌≤◌, ◌<◌}
use mathlib.Core.Path.{◌≡◌, ap, ◌∙◌}
use mathlib.Core.Bool.{cond}
use mathlib.Core.List.{List, [], ◌++◌}
use native.Mathlib.Omega.{arith}
use lib.ListN.{length, take, drop}
use lib.Dec.{ltb}
use borrow.Author.Tests.{le-ltb}
use Rattle.def_wire.specs.Bytes.{words16, be16}
use Rattle.def_standard.specs.Chunks.{covers_of, values_in}
use Rattle.def_crate.specs.Sequence.{moved_by}
use Rattle.def_crate.specs.Crate.{crate_numbers_from}
use Rattle.utils.proofs.BytesLaws.{length-pair_up}
use Rattle.range.specs.Steps.{step_of}
use Rattle.ones.specs.Along.{along}
use Rattle.ones.specs.Stops.{stop_at}
use Rattle.rle.specs.Most.{most_of}
use Rattle.rle.specs.Runs.{here}
use Rattle.ones.proofs.WordLaws.{word-zeros}
use Rattle.ones.proofs.StopLaws.{stop-zeros}
use Rattle.rle.proofs.CrateLaws.{crate-nil, crate-cons, length-crate, most-nil, most-cons, most-le}
use Rattle.rle_words.proofs.Turn.{words-end, words-cons, Turn, next}

-- where the word at an index stops, and what is to be listed behind it
abbrev pub stop : ℕ → ℕ → List ℕ → ℕ → ℕ → ℕ
stop end t bytes at start = stop_at start end t (be16 bytes at)

abbrev pub rest : ℕ → ℕ → List ℕ → ℕ → ℕ → List ℕ
rest end t bytes at start = here end t bytes (at + 2) (moved_by (covers_of (be16 bytes at)) t start)

-- the numbers of one word
abbrev pub added : ℕ → ℕ → ℕ → ℕ → List ℕ
added end t w start = along (step_of t) start (take (stop_at start end t w) (values_in w))

module _ (end t : ℕ) (bytes : List ℕ) where
  -- the count fits its type
  pub length-here : (start : ℕ) → start < 65536 → length bytes ≤ 262144
      → length (here end t bytes 0 start) ≤ 2147352576
  length-here start s h =
      omega (arith, length-crate end t start (words16 bytes) s, most-le (words16 bytes), length-pair_up 256 bytes)

  module _ (at start : ℕ) where
    pub here_end : length bytes ≤ at + 1 → here end t bytes at start ≡ []
    here_end h = rw (words-end bytes at h) (crate-nil end t start)

    module _ (s : start < 65536) (h : at + 1 < length bytes) where
      abbrev w : ℕ
      w = be16 bytes at

      pub turn : Turn (here end t bytes at start) (added end t w start) (ltb (stop_at start end t w) (covers_of w))
          (here end t bytes (at + 2) (moved_by (covers_of w) t start))
      turn =
          record { split = ap (crate_numbers_from end t start) (words-cons bytes at h) ∙ crate-cons end t start w _ s }

      -- zeros list nothing
      pub here-zeros : w < 16384 → here end t bytes at start ≡ here end t bytes (at + 2) (moved_by (covers_of w) t start)
      here-zeros z =
          let k : covers_of w ≤ stop_at start end t w = omega (arith, stop-zeros start end t w z) in
          next turn (le-ltb _ _ k)
          ∙ ap (λ (l : List ℕ). l ++ here end t bytes (at + 2) (moved_by (covers_of w) t start))
          (word-zeros (step_of t) start (stop_at start end t w) w z)

module _ (bytes : List ℕ) (at : ℕ) where
  pub most-end : length bytes ≤ at + 1 → most_of (words16 (drop at bytes)) ≡ 0
  most-end h = rw (words-end bytes at h) most-nil

  pub most-next : at + 1 < length bytes → let w = be16 bytes at in
      most_of (words16 (drop at bytes)) ≡ cond (ltb w 16384) 0 (covers_of w) + most_of (words16 (drop (at + 2) bytes))
  most-next h = rw (words-cons bytes at h) (most-cons (be16 bytes at) (words16 (drop (at + 2) bytes)))

pub most-fits : (bytes : List ℕ) → length bytes ≤ 262144 → most_of (words16 bytes) ≤ 2147352576
most-fits bytes h = omega (arith, most-le (words16 bytes), length-pair_up 256 bytes)
