-- A list that goes by positions: items stand at positions p, p + 1, .., and those that pass a test are listed, in
-- order.
use Rattle.std.specs.Prelude.{ℕ, suc, Bool, cond, List, [], ◌∷◌}

module _ {A B : Type 0} (test : ℕ → A → Bool) (make : ℕ → A → B) where
  abbrev pub list_from : ℕ → List A → List B
  list_from p [] = []
  list_from p (x ∷ xs) = cond (test p x) (make p x ∷ list_from (suc p) xs) (list_from (suc p) xs)
