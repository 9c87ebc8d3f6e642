-- Bytes that are marks, and what a word made from them covers.
use Rattle.std.specs.Prelude.{ℕ, ◌≤◌, List, get_or}

-- each is 0 or 1
abbrev pub Marks : List ℕ → Type 0
Marks ms = (i : ℕ) → get_or ms i 0 ≤ 1
