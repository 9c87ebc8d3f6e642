-- The binary digits of a number.
use Rattle.std.specs.Prelude.{ℕ, suc, ◌^◌, ◌<◌, ◌≤◌}

-- j is the place of v's highest one, counted from below
pub record Top (v j : ℕ) : Type 0 where
  pub least : 2 ^ j ≤ v
  pub below : v < 2 ^ suc j
