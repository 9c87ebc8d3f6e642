-- What a state and the bytes behind it show, on the way to def_portions' course.
--     run_of       the events of the bytes, and the refusal that they end with
--     opening     the same of a state just come to: behind the packet's last block, its end first
--     ending      what comes behind a block of which so many bytes are left
use Rattle.std.specs.Prelude.{ℕ, cond, List, length, drop, ltb}
use Rattle.def_portions.specs.Events.{Course, course, quiet, then}
use Rattle.states.specs.declared.Portions.{Portions}
use Rattle.states.specs.Steps.{known, fault_of, next_block, end_in, after, shows}

unfoldable pub run_of : Portions → List ℕ → Course
run_of st bs = course (shows st bs) (fault_of (after st bs))

unfoldable pub opening : Portions → List ℕ → Course
opening st bs = then (end_in st) (run_of st bs)

-- of what a block left behind only the announced length counts
unfoldable pub ending : ℕ → ℕ → ℕ → List ℕ → Course
ending announced rest behind bs =
    cond (ltb (length bs) rest) quiet (opening (next_block (known announced 0 0 0 0) behind) (drop rest bs))
