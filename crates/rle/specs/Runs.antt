-- The crate's list on its way over the words (RULES, "Crate reading").
--     here    what is still to be listed from an index of the bytes on, with the start moved so far
--     Ran     words were passed, and their numbers stored
use Rattle.std.specs.Prelude.{ℕ, ◌≤◌, ◌<◌, ◌≡◌, List, ◌++◌, length, drop}
use Rattle.laws.specs.Stores.{Wrote}
use Rattle.def_wire.specs.Bytes.{words16}
use Rattle.def_crate.specs.Crate.{crate_numbers_from}
use Rattle.range.specs.Failing.{first_fail}

abbrev pub here : ℕ → ℕ → List ℕ → ℕ → ℕ → List ℕ
here end t bytes at start = crate_numbers_from end t start (words16 (drop at bytes))

-- from index at₀, with start₀ and the list l₀ filled up to n₀, to index at, with start and l filled up to n; from
-- there `first` is the first place that fails
pub record Ran (end t : ℕ) (bytes : List ℕ) (at₀ start₀ : ℕ) (l₀ : List ℕ) (n₀ at start first : ℕ) (l : List ℕ) (n : ℕ)
    : Type 0 where
  pub onward : at₀ ≤ at
  pub within : at ≤ length bytes
  pub small : start < 65536
  pub fails : first ≡ first_fail start end t
  pub numbers : List ℕ
  pub split : here end t bytes at₀ start₀ ≡ numbers ++ here end t bytes at start
  pub wrote : Wrote l₀ n₀ numbers l n
