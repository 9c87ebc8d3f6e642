-- What the code computes on its way to the definitions' pairs: both readings list a first stretch of the times, with
-- numbers one step apart.
--     range_by       the range whose positions a reading counts
--     listable      how many positions a reading lists from the first on, whatever times there are
--     first_pairs    the pairs of n positions from p on
--     stepped       the same by a first number and a step
--     Stored        what storing a list of pairs leaves in two lists (private)
use Rattle.std.specs.Prelude.{◌≡◌, ℕ, zero, suc, List, [], ◌∷◌, ◌++◌, map, length, drop}
use Rattle.def_wire.specs.declared.Reading.{Reading}
use Rattle.def_wire.specs.declared.Reading.TheVariants.{Standard, Crate}
use Rattle.def_wire.specs.declared.Fields.{Fields}
use Rattle.def_standard.specs.declared.Range.{Range}
use Rattle.def_standard.specs.declared.Receipt.{Receipt}
use Rattle.def_standard.specs.Range.{range_of, number_of}
use Rattle.def_standard.specs.Standard.{receipt}
use Rattle.range.specs.Grid.{from_begin}
use Rattle.range.specs.Steps.{onward}
use Rattle.range.specs.Inside.{inside_count}
use Rattle.range.specs.Failing.{first_fail}

-- the standard's from the grid's first number on, the crate's from begin on
abbrev pub range_by : Reading → Fields → Range
range_by Standard f = range_of f
range_by Crate f = from_begin f

abbrev pub listable : Reading → Fields → ℕ
listable Standard f = inside_count (range_of f)
listable Crate f = first_fail f.begin f.end f.thinning

unfoldable pub first_pairs : Range → ℕ → ℕ → List ℕ → List Receipt
first_pairs g p zero ts = []
first_pairs g p (suc n) [] = []
first_pairs g p (suc n) (t ∷ ts) = receipt (number_of g p) t ∷ first_pairs g (suc p) n ts

-- the same by a first number and a step
unfoldable pub stepped : ℕ → ℕ → ℕ → List ℕ → List Receipt
stepped step x zero ts = []
stepped step x (suc n) [] = []
stepped step x (suc n) (t ∷ ts) = receipt x t ∷ stepped step (onward step x) n ts

abbrev pub number_in : Receipt → ℕ
number_in x = x.number

abbrev pub time_in : Receipt → ℕ
time_in x = x.time.0

pub record Stored (whole : List Receipt) (ns ts ns' ts' : List ℕ) : Type 0 where
  pub numbers : ns' ≡ map number_in whole ++ drop (length (map number_in whole)) ns
  pub times : ts' ≡ map time_in whole ++ drop (length (map time_in whole)) ts
