-- The pattern that lent memory holds before a call.
--     mark8, mark16, mark32     what stands at an index
--     pattern                   n items of it, from an index on
--     stands                    whether a list, from an index on, is the pattern
use Rattle.std.specs.Prelude.{ℕ, zero, suc, ◌+◌, ◌*◌, ◌%◌, Bool, true, false, cond, List, [], ◌∷◌}

abbrev pub mark8 : ℕ → ℕ
mark8 i = i % 251 + 4

abbrev pub mark16 : ℕ → ℕ
mark16 i = i % 65521 * 40503 % 65536

abbrev pub mark32 : ℕ → ℕ
mark32 i = i % 65521 * 40503 + 123456789

unfoldable pub pattern : {A : Type 0} → (ℕ → A) → ℕ → ℕ → List A
pattern mark i zero = []
pattern mark i (suc n) = mark i ∷ pattern mark (suc i) n

-- `same` says whether two items are the same
unfoldable pub stands : {A : Type 0} → (A → A → Bool) → (ℕ → A) → ℕ → List A → Bool
stands same mark i [] = true
stands same mark i (x ∷ l) = cond (same x (mark i)) (stands same mark (suc i) l) false
