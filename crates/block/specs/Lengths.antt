-- What the standard asks of a block of types 1 and 2 before its words are looked at: its type (10) and its length (7).
use Rattle.std.specs.Prelude.{ℕ, cond, List, length, eqb, Err}
use Rattle.def_refusals.specs.Answers.{Or}
use Rattle.def_refusals.specs.declared.Refusal.TheVariants.{OtherType}
use Rattle.def_wire.specs.declared.Rle.{Rle}
use Rattle.def_wire.specs.declared.Ranged.TheVariants.{Chunks}
use Rattle.def_wire.specs.declared.Kind.TheVariants.{Spans}
use Rattle.def_wire.specs.Block.{type_of, rle_type, standard_rule}

unfoldable pub length_check : Rle → List ℕ → Or (Unit {0})
length_check a v =
    cond (eqb (type_of v) (rle_type a)) (standard_rule (Spans (Chunks a)) (length v)) (Err (OtherType (type_of v)))
