-- Numbers one step apart on the circle of 65,536, one for each value; those of value one are listed.
--     progression    a run of them
--     past           the one after a run
--     along          those of value one
--     fitting        a list, where there is room for it
use Rattle.std.specs.Prelude.{ℕ, zero, suc, ◌+◌, cond, List, [], ◌∷◌, length, ◌==◌, nat_le}
use Rattle.range.specs.Steps.{onward}

-- n numbers from the first on
unfoldable pub progression : ℕ → ℕ → ℕ → List ℕ
progression step first zero = []
progression step first (suc n) = first ∷ progression step (onward step first) n

-- the number n steps on
unfoldable pub past : ℕ → ℕ → ℕ → ℕ
past step first zero = first
past step first (suc n) = onward step (past step first n)

-- the first value has the first number
unfoldable pub along : ℕ → ℕ → List ℕ → List ℕ
along step first [] = []
along step first (v ∷ vs) =
    cond (v == 1) (first ∷ along step (onward step first) vs) (along step (onward step first) vs)

-- all of xs, where there is room for it from index `at` on among `size`; else nothing
unfoldable pub fitting : ℕ → ℕ → List ℕ → List ℕ
fitting size at xs = cond (nat_le (at + length xs) size) xs []
