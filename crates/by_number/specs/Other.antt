-- Why a question that a block's type does not serve is refused: as its view is, or 10 with its own type (private).
use Rattle.std.specs.Prelude.{ℕ, List, Ok, Err}
use Rattle.def_refusals.specs.declared.Refusal.{Refusal}
use Rattle.def_refusals.specs.Answers.{Or}
use Rattle.def_questions.specs.ByNumber.{not_served}

abbrev pub other_of : Or (List ℕ) → Refusal
other_of (Ok v) = not_served v
other_of (Err x) = x
