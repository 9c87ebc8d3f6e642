-- What a call that stores pairs leaves in the three lists that they have a part in.
--     PairsLaid      the pairs ps were stored from index n on; n' is the index past them
use Rattle.std.specs.Prelude.{◌≡◌, ℕ, ◌+◌, List, map, length}
use Rattle.def_standard.specs.declared.Receipt.{Receipt}
use Rattle.def_portions.specs.declared.Event.TheVariants.{Pair}
use Rattle.def_portions.specs.Lists.{tag_part, number_part, value_part, laid}

pub record PairsLaid (ps : List Receipt) (n : ℕ) (t u v t' u' v' : List ℕ) (n' : ℕ) : Type 0 where
  pub tags : t' ≡ laid tag_part (map Pair ps) n t
  pub numbers : u' ≡ laid number_part (map Pair ps) n u
  pub values : v' ≡ laid value_part (map Pair ps) n v
  pub past : n' ≡ n + length ps
