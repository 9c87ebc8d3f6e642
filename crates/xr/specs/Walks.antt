-- What the walk's loops find (private).
--     found       where block k's view lies among the blocks up to where they end, or 6 or 9
--     Walking     a place of the walk
--     Reach, Walk     what the two loops find
use Rattle.std.specs.Prelude.{ℕ, ◌+◌, ◌*◌, ◌-◌, ◌%◌, ◌≤◌, ◌<◌, ◌≡◌, List, length, Ok, Err}
use Rattle.def_refusals.specs.Answers.{Or}
use Rattle.def_refusals.specs.declared.Refusal.{Refusal}
use Rattle.def_wire.specs.declared.Reading.{Reading}
use Rattle.def_wire.specs.Packet.{walk_from, place_of, pick_block}

abbrev pub found : Reading → List ℕ → ℕ → ℕ → Or (ℕ × ℕ)
found r s stop k = pick_block r s k (walk_from s stop (length s) 8 0)

-- a place of the walk, at block n: the walk from here is the walk from the start
pub record Walking (s : List ℕ) (stop at n : ℕ) : Type 0 where
  pub before : at ≤ stop
  pub word : at % 4 ≡ 0
  pub count : 8 + 4 * n ≤ at
  pub here : at ≡ place_of s n
  pub walk : walk_from s stop (length s - n) at n ≡ walk_from s stop (length s) 8 0

-- the walk to block k: it stands there, or where the blocks end before it, or has met a block that is too long
pub record Reach (s : List ℕ) (stop k : ℕ) (count : Or ℕ) (place : ℕ) : Type 0 where
  pub cut : (x : Refusal) → count ≡ Err x → count ≡ walk_from s stop (length s) 8 0
  pub at : (n : ℕ) → count ≡ Ok n → Walking s stop place n
  pub near : (n : ℕ) → count ≡ Ok n → n ≤ k
  pub ended : (n : ℕ) → count ≡ Ok n → n < k → stop ≤ place

pub record Walk (s : List ℕ) (stop k : ℕ) (count : Or ℕ) (place : ℕ) : Type 0 where
  pub counted : count ≡ walk_from s stop (length s) 8 0
  pub placed : (n : ℕ) → count ≡ Ok n → k < n → place ≡ place_of s k
