-- What a call that stores a list leaves.
--     Wrote     the list vs was stored in l from index i on, which gave l'; j is the index past it
--     Filled    a list that fits was stored from the front on; the answer n is its length
use Rattle.std.specs.Prelude.{ℕ, ◌+◌, ◌≡◌, List, ◌++◌, length, drop}
use Rattle.std.proofs.lemmas.List.Edits.{sets}

pub record Wrote (l : List ℕ) (i : ℕ) (vs l' : List ℕ) (j : ℕ) : Type 0 where
  pub stored : l' ≡ sets l i vs
  pub past : j ≡ i + length vs

abbrev pub Filled : List ℕ → List ℕ → ℕ → List ℕ → Type 0
Filled vs l n l' = (n ≡ length vs) × (l' ≡ vs ++ drop (length vs) l)
