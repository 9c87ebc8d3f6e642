-- The same questions with the asked type given by a number, as other languages ask. A number that a question does not
-- serve is 10 with the
-- block's own type, in 10's place: after 9, before 7 (RULES, "Refusal numbers").
--     numbers_by, words_by     served by 1 and 2
--     fields_by               served by 1, 2 and 3
use Rattle.std.specs.Prelude.{ℕ, List, Option, Err, Some, None}
use Rattle.def_wire.specs.declared.Fields.{Fields}
use Rattle.def_refusals.specs.declared.Refusal.{Refusal}
use Rattle.def_refusals.specs.declared.Refusal.TheVariants.{OtherType}
use Rattle.def_refusals.specs.Answers.{Or, on_shown}
use Rattle.def_wire.specs.declared.Reading.{Reading}
use Rattle.def_wire.specs.declared.Rle.{Rle}
use Rattle.def_wire.specs.declared.Ranged.{Ranged}
use Rattle.def_wire.specs.Packet.{view_of}
use Rattle.def_wire.specs.Block.{type_of, rle_of, ranged_of, fields_of}
use Rattle.def_questions.specs.Questions.{words_shown, numbers_shown}
use Rattle.def_questions.specs.Packets.{on_view_fields}

-- a block is not of a type that the question serves
abbrev pub not_served : List ℕ → Refusal
not_served v = OtherType (type_of v)

-- the question, where the number asks for one that it serves; else another answer
abbrev pub on_rle : {A : Type 0} → Option Rle → (Rle → A) → A → A
on_rle (Some a) f other = f a
on_rle None f other = other

abbrev pub on_ranged : {A : Type 0} → Option Ranged → (Ranged → A) → A → A
on_ranged (Some g) f other = f g
on_ranged None f other = other

unfoldable pub words_by : Reading → List ℕ → ℕ → ℕ → Or (List ℕ)
words_by r s k t = on_shown (view_of r s k) (λ v. on_rle (rle_of t) (λ a. words_shown r a v) (Err (not_served v)))

-- of a view
abbrev pub numbers_view_by : Reading → ℕ → List ℕ → Or (List ℕ)
numbers_view_by r t v = on_rle (rle_of t) (λ a. numbers_shown r a v) (Err (not_served v))

unfoldable pub numbers_by : Reading → List ℕ → ℕ → ℕ → Or (List ℕ)
numbers_by r s k t = on_shown (view_of r s k) (λ v. numbers_view_by r t v)

unfoldable pub fields_by : Reading → List ℕ → ℕ → ℕ → Or Fields
fields_by r s k t = on_view_fields (view_of r s k) (λ v. on_ranged (ranged_of t) (λ g. fields_of r g v) (Err (not_served v)))
