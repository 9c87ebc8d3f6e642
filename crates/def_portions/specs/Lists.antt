-- How four lent lists, side by side, hold events: the event at an index has its tag there, and its sequence number and
-- its value, where it has one; three numbers of the fourth list belong to each index, for a summary alone. What an
-- event does not have is left as it was.
--     kind in the tag's lowest byte      tag beside it             number    value               sums
--     1 header                           length                              SSRC
--     2 start                            type, L
--     3 start of types 1 to 3            type, L, thinning                   SSRC, begin, end
--     4 number                                                     number
--     5 pair                                                       number    time
--     6 entry                            SSRC                                last, delay
--     7 time                                                                 time
--     8 end
--     9 summary                          flags, TTL or hop limit             SSRC, begin, end    lost, duplicates,
--                                                                                                jitter
--     room_in       how many events four lists have room for
--     laid         a list after the parts of events were put into it; laid_sums of the fourth
use Rattle.std.specs.Prelude.{ℕ, suc, ◌+◌, ◌*◌, ◌/◌, min, List, [], ◌∷◌, length, set}
use Rattle.std.proofs.lemmas.List.Edits.{sets}
use Rattle.def_wire.specs.declared.ByteSpread.{ByteSpread}
use Rattle.def_wire.specs.declared.Sums.{Sums}
use Rattle.def_wire.specs.Summary.{flags_of, sums_of}
use Rattle.def_portions.specs.declared.Event.{Event}
use Rattle.def_portions.specs.declared.Event.TheVariants.{Header, Start, Ranged as RangedStart, Number, Pair}
use Rattle.def_portions.specs.declared.Event.TheVariants.{Entry, Time, Summed, End}

-- an item of a list is left as it was, or is put there
pub data Part : Type 0 where
  keeps : Part
  puts : ℕ → Part

-- type in the second byte, L in the next three, thinning in the sixth
abbrev pub start_tag : ℕ → ℕ → ℕ → ℕ → ℕ
start_tag kind type l thinning = kind + 256 * type + 65536 * l + 1099511627776 * thinning

-- two numbers of 32 bits, the first in the upper half
abbrev pub halves : ℕ → ℕ → ℕ
halves a b = a * 4294967296 + b

-- SSRC, begin and end
abbrev pub span_value : ℕ → ℕ → ℕ → ℕ
span_value ssrc begin end = halves ssrc (begin * 65536 + end)

-- flags in the second byte, and the four bytes of TTL or hop limit in the next four, the last of them lowest
abbrev pub hops_number : ByteSpread → ℕ
hops_number x = ((x.least * 256 + x.most) * 256 + x.mean) * 256 + x.deviation

abbrev pub summary_tag : ℕ → Sums → ℕ
summary_tag flags n = 9 + 256 * flags + 65536 * hops_number n.hops

-- lost and duplicates, and two by two the numbers of jitter
abbrev pub sums_row : Sums → List ℕ
sums_row n =
    halves n.lost n.duplicates ∷ halves n.jitter.least n.jitter.most
    ∷ halves n.jitter.mean n.jitter.deviation ∷ []

unfoldable pub tag_of : Event → ℕ
tag_of (Header l ssrc) = 1 + 256 * l
tag_of (Start type l) = start_tag 2 type l 0
tag_of (RangedStart type l f) = start_tag 3 type l f.thinning
tag_of (Number n) = 4
tag_of (Pair r) = 5
tag_of (Entry e) = 6 + 256 * e.ssrc
tag_of (Time t) = 7
tag_of (Summed s) = summary_tag (flags_of s) (sums_of s)
tag_of End = 8

abbrev pub tag_part : Event → Part
tag_part e = puts (tag_of e)

unfoldable pub number_part : Event → Part
number_part (Header l ssrc) = keeps
number_part (Start type l) = keeps
number_part (RangedStart type l f) = keeps
number_part (Number n) = puts n
number_part (Pair r) = puts r.number
number_part (Entry e) = keeps
number_part (Time t) = keeps
number_part (Summed s) = keeps
number_part End = keeps

unfoldable pub value_part : Event → Part
value_part (Header l ssrc) = puts ssrc
value_part (Start type l) = keeps
value_part (RangedStart type l f) = puts (span_value f.ssrc f.begin f.end)
value_part (Number n) = keeps
value_part (Pair r) = puts r.time.0
value_part (Entry e) = puts (halves e.last.0 e.delay.0)
value_part (Time t) = puts t.0
value_part (Summed s) = puts (span_value s.ssrc s.begin s.end)
value_part End = keeps

abbrev pub put_at : Part → ℕ → List ℕ → List ℕ
put_at keeps n l = l
put_at (puts x) n l = set l n x

-- how events are put, each at its own index, the first one's at index n
unfoldable pub laid_by : (Event → ℕ → List ℕ → List ℕ) → List Event → ℕ → List ℕ → List ℕ
laid_by put [] n l = l
laid_by put (e ∷ es) n l = laid_by put es (suc n) (put e n l)

-- a list after the parts of events were put into it
abbrev pub laid : (Event → Part) → List Event → ℕ → List ℕ → List ℕ
laid part es n l = laid_by (λ e. put_at (part e)) es n l

-- the fourth list: a summary puts its row of three
unfoldable pub put_sums : Event → ℕ → List ℕ → List ℕ
put_sums (Header x ssrc) n l = l
put_sums (Start type x) n l = l
put_sums (RangedStart type x f) n l = l
put_sums (Number x) n l = l
put_sums (Pair r) n l = l
put_sums (Entry e) n l = l
put_sums (Time t) n l = l
put_sums (Summed s) n l = sets l (3 * n) (sums_row (sums_of s))
put_sums End n l = l

abbrev pub laid_sums : List Event → ℕ → List ℕ → List ℕ
laid_sums es n l = laid_by put_sums es n l

-- the least of four lists' room: the fourth has three numbers for each event
abbrev pub room_in : List ℕ → List ℕ → List ℕ → List ℕ → ℕ
room_in t u v w = min (min (min (length t) (length u)) (length v)) (length w / 3)
