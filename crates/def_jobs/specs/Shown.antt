-- All that a block shows, and when two blocks show the same: fields, numbers, times, entries and summaries; not chunk
-- words (RULES, "Job lists and writing").
use Rattle.std.specs.Prelude.{ℕ, Bool, true, false, ◌&&◌, List, [], ◌∷◌, ◌++◌, eqb, Option, Ok, Err, Some, None}
use Rattle.def_wire.specs.declared.Spread.{Spread}
use Rattle.def_wire.specs.declared.Kind.{Kind}
use Rattle.def_refusals.specs.Answers.{Or, on_shown}
use Rattle.def_wire.specs.declared.Reading.{Reading}
use Rattle.def_wire.specs.declared.Fields.{Fields}
use Rattle.def_wire.specs.declared.LongTime.{LongTime}
use Rattle.def_wire.specs.declared.Rle.{Rle}
use Rattle.def_wire.specs.declared.Ranged.TheVariants.{Chunks, Times}
use Rattle.def_wire.specs.declared.Kind.TheVariants.{Spans, Clock, Echoes, Statistics}
use Rattle.def_wire.specs.declared.ByteSpread.{ByteSpread}
use Rattle.def_wire.specs.declared.HopsOr.{HopsOr}
use Rattle.def_wire.specs.declared.HopsOr.TheVariants.{NoHops, Ttl, HopLimit, Unknown}
use Rattle.def_wire.specs.declared.Summary.{Summary}
use Rattle.def_wire.specs.Block.{type_of, rle_type, receipt_type, clock_type, echo_type}
use Rattle.def_wire.specs.Block.{summary_type, kind_in, fields_of, time_of}
use Rattle.def_wire.specs.Summary.{summary_of}
use Rattle.def_standard.specs.declared.Receipt.{Receipt}
use Rattle.def_standard.specs.declared.Echo.{Echo}
use Rattle.def_questions.specs.Questions.{numbers_shown, pairs_shown, entries_shown}

-- what a block of each kind shows
pub data Record : Type 0 where
  -- types 1 and 2, and which of them
  reported : Rle → Fields → List ℕ → Record
  -- type 3
  received : Fields → List Receipt → Record
  -- type 4
  clocked : LongTime → Record
  -- type 5
  echoed : List Echo → Record
  -- type 6
  summed : Summary → Record
  -- any other: type and length only
  bare : Record

abbrev pub on_fields : {A : Type 0} → Or Fields → (Fields → Or A) → Or A
on_fields (Ok f) g = g f
on_fields (Err x) g = Err x

abbrev pub on_time : {A : Type 0} → Or LongTime → (LongTime → Or A) → Or A
on_time (Ok t) g = g t
on_time (Err x) g = Err x

abbrev pub on_summary : {A : Type 0} → Or Summary → (Summary → Or A) → Or A
on_summary (Ok s) g = g s
on_summary (Err x) g = Err x

abbrev pub report_shown : Reading → Rle → List ℕ → Or Record
report_shown r a v = on_fields (fields_of r (Chunks a) v) (λ f. on_shown (numbers_shown r a v) (λ l. Ok (reported a f l)))

abbrev pub receipt_shown : Reading → List ℕ → Or Record
receipt_shown r v = on_fields (fields_of r Times v) (λ f. on_shown (pairs_shown r v) (λ l. Ok (received f l)))

abbrev pub record_as : Option Kind → Reading → List ℕ → Or Record
record_as (Some (Spans (Chunks a))) r v = report_shown r a v
record_as (Some (Spans Times)) r v = receipt_shown r v
record_as (Some Clock) r v = on_time (time_of r v) (λ t. Ok (clocked t))
record_as (Some Echoes) r v = on_shown (entries_shown r v) (λ l. Ok (echoed l))
record_as (Some Statistics) r v = on_summary (summary_of r v) (λ s. Ok (summed s))
record_as None r v = Ok bare

-- what the block with the view v shows, or why it is refused
unfoldable pub record_of : Reading → List ℕ → Or Record
record_of r v = record_as (kind_in r (type_of v)) r v

-- a record's numbers in a row, its type first: two records are the same where these are
abbrev pub row_of : Fields → List ℕ → List ℕ
row_of f rest = f.ssrc ∷ f.begin ∷ f.end ∷ f.thinning ∷ rest

abbrev pub receipt_row : List Receipt → List ℕ
receipt_row [] = []
receipt_row (x ∷ xs) = x.number ∷ x.time.0 ∷ receipt_row xs

abbrev pub echo_row : List Echo → List ℕ
echo_row [] = []
echo_row (x ∷ xs) = x.ssrc ∷ x.last.0 ∷ x.delay.0 ∷ echo_row xs

-- an absent number is none, and no 0
abbrev pub count_row : Option ℕ → List ℕ
count_row (Some n) = 1 ∷ n ∷ []
count_row None = 0 ∷ []

abbrev pub jitter_row : Option Spread → List ℕ
jitter_row (Some x) = 1 ∷ x.least ∷ x.most ∷ x.mean ∷ x.deviation ∷ []
jitter_row None = 0 ∷ []

-- ToH first
abbrev pub four_row : ByteSpread → List ℕ
four_row x = x.least ∷ x.most ∷ x.mean ∷ x.deviation ∷ []

abbrev pub hops_row : HopsOr → List ℕ
hops_row NoHops = 0 ∷ []
hops_row (Ttl x) = 1 ∷ four_row x
hops_row (HopLimit x) = 2 ∷ four_row x
hops_row Unknown = 3 ∷ []

abbrev pub summary_row : Summary → List ℕ
summary_row s = s.ssrc ∷ s.begin ∷ s.end ∷ count_row s.lost
    ++ (count_row s.duplicates ++ (jitter_row s.jitter ++ hops_row s.hops))

unfoldable pub numbers_row : Record → List ℕ
numbers_row (reported a f l) = rle_type a ∷ row_of f l
numbers_row (received f l) = receipt_type ∷ row_of f (receipt_row l)
numbers_row (clocked t) = clock_type ∷ t.0 ∷ []
numbers_row (echoed l) = echo_type ∷ echo_row l
numbers_row (summed s) = summary_type ∷ summary_row s
numbers_row bare = []

abbrev pub same_row : List ℕ → List ℕ → Bool
same_row [] [] = true
same_row [] (y ∷ ys) = false
same_row (x ∷ xs) [] = false
same_row (x ∷ xs) (y ∷ ys) = eqb x y && same_row xs ys

abbrev pub same_record : Record → Record → Bool
same_record x y = same_row (numbers_row x) (numbers_row y)
