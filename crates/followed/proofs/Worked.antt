-- Whole by computation: what the questions answer of packets with a block of each kind, as events; and which blocks are
-- fit to be read.
use Rattle.std.specs.Prelude.{Ok, Err, Some, None}
use Prim.Native.Nat.{ℕ}
use mathlib.Core.Path.{◌≡◌, refl}
use mathlib.Core.List.{List, [], ◌∷◌, ◌++◌}
use Rattle.def_refusals.specs.declared.Refusal.TheVariants.{BadBlockLength}
use Rattle.def_wire.specs.declared.HopsOr.TheVariants.{Ttl}
use Rattle.def_wire.specs.Bytes.{pair_up}
use Rattle.def_wire.specs.Packet.{place_of}
use Rattle.def_wire.specs.Block.{rle_of, ranged_of, kind_of, standard_rule, fitness, check_of, fields_of, time_of}
use Rattle.def_wire.specs.Block.{has, clear_rule}
use Rattle.def_wire.specs.Summary.{byte_spread, summary_from, summary_of}
use Rattle.def_standard.specs.Chunks.{values_in}
use Rattle.def_standard.specs.Range.{ahead_of, range_of, offset_of, inside, number_of}
use Rattle.def_standard.specs.Standard.{values_of, numbers_from, pairs_from, echoes_of}
use Rattle.def_questions.specs.Questions.{numbers_shown, pairs_shown, entries_shown}
use Rattle.def_portions.specs.declared.Event.TheVariants.{Header, Start, Ranged as RangedStart, Number, Pair}
use Rattle.def_portions.specs.declared.Event.TheVariants.{Entry, Time, Summed, End}
use Rattle.followed.specs.Whole.{fit_of, whole_of, kind_part, parts_from}

-- a loss block thinned by 1, two times and one past the range, a clock, an echo, and a block of no kind
abbrev packet : List ℕ
packet =
    128 ∷ 207 ∷ 0 ∷ 19 ∷ 0 ∷ 0 ∷ 0 ∷ 1 ∷ 1 ∷ 1 ∷ 0 ∷ 3 ∷ 0 ∷ 0 ∷ 0 ∷ 7 ∷ 0 ∷ 10 ∷ 0 ∷ 14 ∷ 64 ∷ 1 ∷ 224 ∷ 0 ∷ 3 ∷
    0 ∷ 0 ∷ 5 ∷ 0 ∷ 0 ∷ 0 ∷ 7 ∷ 255 ∷ 255 ∷ 0 ∷ 1 ∷ 0 ∷ 0 ∷ 0 ∷ 100 ∷ 0 ∷ 0 ∷ 0 ∷ 200 ∷ 0 ∷ 0 ∷ 1 ∷ 44 ∷ 4 ∷ 0 ∷ 0
    ∷ 2 ∷ 0 ∷ 0 ∷ 0 ∷ 0 ∷ 0 ∷ 0 ∷ 0 ∷ 9 ∷ 5 ∷ 0 ∷ 0 ∷ 3 ∷ 0 ∷ 0 ∷ 0 ∷ 1 ∷ 0 ∷ 0 ∷ 0 ∷ 2 ∷ 0 ∷ 0 ∷ 0 ∷ 3 ∷ 99 ∷ 0 ∷
    0 ∷ 0 ∷ []

whole-packet : whole_of packet 5
    ≡ Header 80 1
    ∷ RangedStart 1 16 (record { ssrc = 7; begin = 10; end = 14; thinning = 1 })
    ∷ Number 10
    ∷ Number 12
    ∷ RangedStart 3 24 (record { ssrc = 7; begin = 65535; end = 1; thinning = 0 })
    ∷ Pair (record { number = 65535; time = record { 0 = 100 } })
    ∷ Pair (record { number = 0; time = record { 0 = 200 } })
    ∷ Start 4 12
    ∷ Time (record { 0 = 9 })
    ∷ Start 5 16
    ∷ Entry (record { ssrc = 1; last = record { 0 = 2 }; delay = record { 0 = 3 } })
    ∷ Start 99 4
    ∷ End
    ∷ []
unfolding pair_up place_of rle_of ranged_of kind_of standard_rule fitness check_of fields_of time_of values_in ahead_of range_of
    offset_of inside number_of values_of numbers_from pairs_from echoes_of numbers_shown pairs_shown entries_shown kind_part
    parts_from has clear_rule
whole-packet = refl

-- a summary: duplicates and TTL stand there, lost and jitter do not
abbrev summary : List ℕ
summary =
    6 ∷ 72 ∷ 0 ∷ 9 ∷ 0 ∷ 0 ∷ 0 ∷ 7 ∷ 0 ∷ 10 ∷ 0 ∷ 20 ∷ 0 ∷ 0 ∷ 0 ∷ 3 ∷ 0 ∷ 0 ∷ 0 ∷ 4 ∷ 0 ∷ 0 ∷ 0 ∷ 5 ∷ 0 ∷ 0 ∷ 0 ∷ 6 ∷ 0
    ∷ 0 ∷ 0 ∷ 7 ∷ 0 ∷ 0 ∷ 0 ∷ 8 ∷ 61 ∷ 64 ∷ 62 ∷ 1 ∷ []

whole-summary : whole_of (128 ∷ 207 ∷ 0 ∷ 11 ∷ 0 ∷ 0 ∷ 0 ∷ 1 ∷ summary) 1
    ≡ Header 48 1
    ∷ Start 6 40
    ∷ Summed
    (record {
      ssrc = 7;
      begin = 10;
      end = 20;
      lost = None;
      duplicates = Some 4;
      jitter = None;
      hops = Ttl (byte_spread 61 64 62 1);
    })
    ∷ End
    ∷ []
unfolding place_of rle_of ranged_of kind_of standard_rule fitness check_of summary_from summary_of kind_part parts_from
whole-summary = refl

fit-summary : fit_of summary ≡ Ok tt
unfolding rle_of ranged_of kind_of standard_rule fitness
fit-summary = refl

unfit-summary : fit_of (summary ++ (0 ∷ 0 ∷ 0 ∷ 0 ∷ [])) ≡ Err (BadBlockLength 40 44)
unfolding rle_of ranged_of kind_of standard_rule fitness
unfit-summary = refl

-- a block of type t: two words, of which the second has these bytes, or one time
abbrev spans : ℕ → ℕ → ℕ → List ℕ
spans t hi lo = t ∷ 0 ∷ 0 ∷ 3 ∷ 0 ∷ 0 ∷ 0 ∷ 7 ∷ 0 ∷ 10 ∷ 0 ∷ 14 ∷ 64 ∷ 1 ∷ hi ∷ lo ∷ []

unfit-word : fit_of (spans 1 64 0) ≡ Err (BadBlockLength 12 16)
unfolding pair_up rle_of ranged_of kind_of standard_rule fitness has clear_rule
unfit-word = refl

fit_word : fit_of (spans 1 64 1) ≡ Ok tt
unfolding pair_up rle_of ranged_of kind_of standard_rule fitness has clear_rule
fit_word = refl

fit-time : fit_of (spans 3 64 0) ≡ Ok tt
unfolding pair_up rle_of ranged_of kind_of standard_rule fitness has clear_rule
fit-time = refl

fit-other : fit_of (spans 9 64 0) ≡ Ok tt
unfolding pair_up rle_of ranged_of kind_of standard_rule fitness has clear_rule
fit-other = refl
