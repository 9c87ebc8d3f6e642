-- The event at an index of four lists. Private: only the code on its way speaks of it.
use Rattle.std.specs.Prelude.{ℕ, ◌+◌, ◌*◌, List, get_or}
use Rattle.def_portions.specs.declared.Event.{Event}
use Rattle.event_lists.specs.Parts.{event_of}

abbrev pub event_at : List ℕ → List ℕ → List ℕ → List ℕ → ℕ → Event
event_at t u v w i =
    event_of (get_or t i 0) (get_or u i 0) (get_or v i 0) (get_or w (3 * i) 0) (get_or w (3 * i + 1) 0) (get_or w (3 * i + 2) 0)
