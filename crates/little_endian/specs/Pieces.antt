-- A list of bytes whose numbers are stored piece by piece.
--     Pieces     from each place on that has m bytes behind it, `piece` comes next, of m bytes
use Rattle.std.specs.Prelude.{ℕ, ◌+◌, ◌≤◌, ◌≡◌, List, ◌++◌, length, drop}

pub record Pieces (f : List ℕ → List ℕ) (body : List ℕ) (m : ℕ) (piece : ℕ → List ℕ) : Type 0 where
  pub next : (k : ℕ) → k + m ≤ length body → f (drop k body) ≡ piece k ++ f (drop (k + m) body)
  pub size : (k : ℕ) → length (piece k) ≡ m
