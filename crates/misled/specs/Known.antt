-- What the functions of this crate know of a word and of a stretch of words.
--     FirstOne    r is the first place of a word, from one on, that has value one; else it is past the word's last
--     Quiet       no place of a word has value one
--     covered_in   how many positions so many words from an index on cover
--     QuietIn     no place of theirs has value one
--     Over        they are passed at once
use Rattle.std.specs.Prelude.{◌≡◌, ℕ, zero, suc, ◌+◌, ◌-◌, ◌*◌, ◌%◌, ◌<◌, ◌≤◌, ◌⊎◌, List, length}
use Rattle.def_standard.specs.Chunks.{covers_of, value_of}
use Rattle.def_jobs.specs.Jobs.{le16}

pub record FirstOne (w place r : ℕ) : Type 0 where
  pub from : place ≤ r
  pub zeros : (i : ℕ) → place ≤ i → i < r → i < covers_of w → value_of w i ≡ 0
  pub one : r < covers_of w → value_of w r ≡ 1

pub record Quiet (w : ℕ) : Type 0 where
  pub zeros : (i : ℕ) → i < covers_of w → value_of w i ≡ 0

unfoldable pub covered_in : List ℕ → ℕ → ℕ → ℕ
covered_in body from zero = 0
covered_in body from (suc n) = covered_in body from n + covers_of (le16 body (from + 2 * n))

pub record QuietIn (body : List ℕ) (from n : ℕ) : Type 0 where
  pub each : (k : ℕ) → k < n → Quiet (le16 body (from + 2 * k))

-- from index `at` to index `to`: all of them end inside the range, where `left` positions are inside before them and
-- `rest` behind them, or none of them has a one. `p` and `next` are the positions there, on the circle
pub record Over (body : List ℕ) (left p at rest next to : ℕ) : Type 0 where
  pub words : ℕ
  pub index : to ≡ at + 2 * words
  pub within : to ≤ length body
  pub clear : (covered_in body at words ≤ left) ⊎ QuietIn body at words
  pub inside : rest ≡ left - covered_in body at words
  pub circle : next ≡ (p + covered_in body at words) % 65536
