-- What it says that no second answer satisfies a contract P, as rattle reads it from src/: of two runs with the same
-- arguments a that meet it, with the answers r and what is lent, as it is at exit, s, some part is the same.
use mathlib.Core.Path.{◌≡◌}

abbrev pub Fixes : {A R S X : Type 0} → (A → R → S → Type 0) → (R → S → X) → Type 0
Fixes {A} {R} {S} P part = (a : A) (r₁ r₂ : R) (s₁ s₂ : S) → P a r₁ s₁ → P a r₂ s₂ → part r₁ s₁ ≡ part r₂ s₂
