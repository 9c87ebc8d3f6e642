-- JobsSize, by the tests that lead to each answer.
use Rattle.def_jobs.specs.Writing.{write_fault}
use Rattle.examples.specs.JobsSize.{OfAnyList}

pub of-any-list-hold : OfAnyList
unfolding write_fault
of-any-list-hold =
    record {
      over = λ layout js good few many. rw (good, few, many);
      plain-within = λ js good few many. rw (good, few, many);
      careful-within = λ js good few many. rw (good, few, many);
    }
