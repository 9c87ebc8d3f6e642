-- Eight bytes at once.
--     eight_at               those at an index
--     turned2, turned4       each two, or each four, of them turned round
use Rattle.std.specs.Prelude.{ℕ, ◌+◌, List, [], ◌∷◌}
use Rattle.def_wire.specs.Bytes.{byte_at}

abbrev pub eight_at : List ℕ → ℕ → List ℕ
eight_at s k =
    byte_at s k ∷ byte_at s (k + 1) ∷ byte_at s (k + 2) ∷ byte_at s (k + 3) ∷ byte_at s (k + 4) ∷ byte_at s (k + 5)
    ∷ byte_at s (k + 6) ∷ byte_at s (k + 7) ∷ []

abbrev pub turned2 : List ℕ → List ℕ
turned2 x =
    byte_at x 1 ∷ byte_at x 0 ∷ byte_at x 3 ∷ byte_at x 2 ∷ byte_at x 5 ∷ byte_at x 4 ∷ byte_at x 7 ∷ byte_at x 6 ∷ []

abbrev pub turned4 : List ℕ → List ℕ
turned4 x =
    byte_at x 3 ∷ byte_at x 2 ∷ byte_at x 1 ∷ byte_at x 0 ∷ byte_at x 7 ∷ byte_at x 6 ∷ byte_at x 5 ∷ byte_at x 4 ∷ []
