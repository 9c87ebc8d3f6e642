-- Equal marks between two places, and where they end (private).
use Rattle.std.specs.Prelude.{ℕ, ◌≤◌, ◌<◌, ◌≡◌, List}
use Rattle.def_wire.specs.Bytes.{byte_at}

-- the marks from one place to before another are m
pub record Same (ms : List ℕ) (m from to : ℕ) : Type 0 where
  pub order : from ≤ to
  pub each : (j : ℕ) → from ≤ j → j < to → byte_at ms j ≡ m

-- at the place `to` stands another mark, or it is the stop
pub record Ends (ms : List ℕ) (m stop to : ℕ) : Type 0 where
  pub within : to ≤ stop
  pub other : to < stop → byte_at ms to ≡ m → ⊥
