-- What one call tells, on a state (private: `calls` promises def_probe's text).
--     told_of       a call's lines
--     Telling      the contract: what a call leaves, and that its lines were added to the buffer
use Rattle.std.specs.Prelude.{ℕ, ◌≡◌, List, ◌++◌, length}
use Rattle.def_text.specs.Buffer.{Added}
use Rattle.def_dump.specs.EventLines.{event_lines}
use Rattle.def_probe.specs.Requests.{ending_of}
use Rattle.states.specs.declared.Portions.{Portions}
use Rattle.states.specs.Call.{followed_of, given_of}
use Rattle.ask_portions.specs.declared.Told.{Told}

unfoldable pub told_of : Portions → List ℕ → ℕ → List ℕ
told_of st x room =
    event_lines (given_of st x room) ++ ending_of (followed_of st x room).refusal (length x) (length (given_of st x room))

-- a call with the bytes x and so much room for events, where `at` bytes waited in the buffer l
pub record Telling (st : Portions) (x : List ℕ) (room : ℕ) (l : List ℕ) (at : ℕ) (r : Told) (l' : List ℕ)
    : Type 0 where
  pub state : r.state ≡ (followed_of st x room).state
  pub taken : r.taken ≡ (followed_of st x room).taken
  pub text : Added l at (told_of st x room) l' r.at
