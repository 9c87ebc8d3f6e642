-- No byte has more events than a run of 16,383 numbers and the packet's end. Assumes nothing.
use Prim.Native.Nat.{ℕ, ◌*◌, ◌≤◌}
use mathlib.Core.List.{List, [], ◌∷◌}
use native.Mathlib.Omega.{arith}
use lib.ListN.{length, length-append}
use lib.Dec.{eqb}
use Rattle.laws.proofs.Tests.{either}
use Rattle.states.specs.declared.Portions.{Portions}
use Rattle.states.specs.Steps.{hold, next, events_at, shows}
use Rattle.steps.proofs.SettledLaws.{events-most}

pub most-at : (st : Portions) (b : ℕ) → length (events_at st b) ≤ 16384
unfolding events_at
most-at st b =
    either (eqb st.missing 0)
    (λ t. rw t (omega arith))
    (λ f. rw f (events-most (hold st b)))

pub most-shown : (st : Portions) (x : List ℕ) → length (shows st x) ≤ 16384 * length x
unfolding shows
most-shown st [] = omega arith
most-shown st (b ∷ x) =
    omega (
      arith,
      length-append (events_at st b) (shows (next st b) x),
      most-at st b,
      most-shown (next st b) x,
    )
