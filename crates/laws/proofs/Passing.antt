-- What a `?` hands on: the refusal itself.
use Rattle.std.specs.Prelude.{◌≡◌, Result, Ok, Err, IsErr, IsErrAnd}
use mathlib.Core.Path.{ap}

-- the error that `?` met is the one that is returned
pub handed-on : {T E : Type 0} (r : Result T E) (x : E) → IsErr r × IsErrAnd r (λ y. y ≡ x) → r ≡ Err x
handed-on (Ok t) x h = absurd h.1
handed-on (Err y) x h = ap Err h.1
