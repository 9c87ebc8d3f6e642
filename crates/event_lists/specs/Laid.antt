-- What a call that stores events leaves.
--     Laid           the events es were stored in four lists from index n on; n' is the index past them
--     number_tags     the tags of so many numbers
use Rattle.std.specs.Prelude.{ℕ, ◌+◌, ◌≡◌, List, length, replicate}
use Rattle.def_portions.specs.declared.Event.{Event}
use Rattle.def_portions.specs.Lists.{tag_part, number_part, value_part, laid, laid_sums}

pub record Laid (es : List Event) (n : ℕ) (t u v w t' u' v' w' : List ℕ) (n' : ℕ) : Type 0 where
  pub tags : t' ≡ laid tag_part es n t
  pub numbers : u' ≡ laid number_part es n u
  pub values : v' ≡ laid value_part es n v
  pub sums : w' ≡ laid_sums es n w
  pub past : n' ≡ n + length es

abbrev pub number_tags : ℕ → List ℕ
number_tags k = replicate k 4
