-- The places of value one among the first places of a chunk word (RFC 3611, 4.1.1 and 4.1.2).
use Rattle.std.specs.Prelude.{ℕ, List, take, eqb}
use Rattle.def_standard.specs.Chunks.{values_in}
use Rattle.def_standard.specs.Listing.{list_from}

-- those among the first `room` places, in order
unfoldable pub ones_before : ℕ → ℕ → List ℕ
ones_before w room = list_from (λ q value. eqb value 1) (λ q value. q) 0 (take room (values_in w))
