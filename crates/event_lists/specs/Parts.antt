-- Events read back from four lists side by side (def_portions, Lists).
--     event_of      the event that a tag, a number, a value and three numbers of the fourth list are
--     events_in     the events of four lists, up to a count
--     InRange      each number of an event is within its type
use Rattle.std.specs.Prelude.{ℕ, ◌*◌, ◌/◌, ◌%◌, ◌^◌, ◌<◌, cond, List, [], ◌∷◌, take, eqb}
use Rattle.def_wire.specs.declared.Fields.{Fields}
use Rattle.def_wire.specs.declared.Sums.{Sums}
use Rattle.def_wire.specs.declared.Summary.{Summary}
use Rattle.def_standard.specs.declared.Receipt.{Receipt}
use Rattle.def_standard.specs.declared.Echo.{Echo}
use Rattle.def_wire.specs.declared.LongTime.{LongTime}
use Rattle.def_wire.specs.Summary.{spread, byte_spread, summary_from, sums_of}
use Rattle.def_standard.specs.Standard.{receipt}
use Rattle.def_portions.specs.declared.Event.{Event}
use Rattle.def_portions.specs.declared.Event.TheVariants.{Header, Start, Ranged as RangedStart, Number, Pair}
use Rattle.def_portions.specs.declared.Event.TheVariants.{Entry, Time, Summed, End}

-- what stands in a tag behind its kind
abbrev pub type_in : ℕ → ℕ
type_in tag = tag / 256 % 256

abbrev pub length_in : ℕ → ℕ
length_in tag = tag / 65536 % 16777216

abbrev pub fields_of : ℕ → ℕ → Fields
fields_of tag value =
    record {
      ssrc = value / 4294967296 % 4294967296;
      begin = value / 65536 % 65536;
      end = value % 65536;
      thinning = tag / 1099511627776 % 256;
    }

abbrev pub entry_of : ℕ → ℕ → Event
entry_of tag value =
    Entry
    (record {
      ssrc = tag / 256 % 4294967296;
      last = record { 0 = value / 4294967296 % 4294967296 };
      delay = record { 0 = value % 4294967296 };
    })

-- two numbers of 32 bits
abbrev pub upper : ℕ → ℕ
upper x = x / 4294967296 % 4294967296

abbrev pub lower : ℕ → ℕ
lower x = x % 4294967296

abbrev pub sums_in : ℕ → ℕ → ℕ → ℕ → ℕ → Sums
sums_in tag value a b c = record {
  ssrc = upper value;
  begin = value / 65536 % 65536;
  end = value % 65536;
  lost = upper a;
  duplicates = lower a;
  jitter = spread (upper b) (lower b) (upper c) (lower c);
  hops = byte_spread (tag / 1099511627776 % 256) (tag / 4294967296 % 256) (tag / 16777216 % 256) (tag / 65536 % 256);
}

abbrev pub summary_in : ℕ → ℕ → ℕ → ℕ → ℕ → Summary
summary_in tag value a b c = summary_from (type_in tag) (sums_in tag value a b c)

-- a kind that no event has is the end
unfoldable pub event_of : ℕ → ℕ → ℕ → ℕ → ℕ → ℕ → Event
event_of tag number value a b c =
    cond (eqb (tag % 256) 1) (Header (tag / 256 % 4294967296) (value % 4294967296))
    (cond (eqb (tag % 256) 2) (Start (type_in tag) (length_in tag))
    (cond (eqb (tag % 256) 3) (RangedStart (type_in tag) (length_in tag) (fields_of tag value))
    (cond (eqb (tag % 256) 4) (Number number)
    (cond (eqb (tag % 256) 5) (Pair (receipt number (value % 4294967296)))
    (cond (eqb (tag % 256) 6) (entry_of tag value)
    (cond (eqb (tag % 256) 7) (Time (record { 0 = value }))
    (cond (eqb (tag % 256) 9) (Summed (summary_in tag value a b c)) End)))))))

-- item by item, as far as the shortest list goes
unfoldable pub events_of : List ℕ → List ℕ → List ℕ → List ℕ → List Event
events_of [] numbers values sums = []
events_of (t ∷ tags) [] values sums = []
events_of (t ∷ tags) (n ∷ numbers) [] sums = []
events_of (t ∷ tags) (n ∷ numbers) (v ∷ values) [] = []
events_of (t ∷ tags) (n ∷ numbers) (v ∷ values) (a ∷ []) = []
events_of (t ∷ tags) (n ∷ numbers) (v ∷ values) (a ∷ b ∷ []) = []
events_of (t ∷ tags) (n ∷ numbers) (v ∷ values) (a ∷ b ∷ c ∷ sums) =
    event_of t n v a b c ∷ events_of tags numbers values sums

abbrev pub events_in : List ℕ → List ℕ → List ℕ → List ℕ → ℕ → List Event
events_in tags numbers values sums count =
    events_of (take count tags) (take count numbers) (take count values) (take (3 * count) sums)

-- a summary's numbers are within their types
pub record SumsInRange (n : Sums) : Type 0 where
  pub ssrc : n.ssrc < 2 ^ 32
  pub begin : n.begin < 65536
  pub end : n.end < 65536
  pub lost : n.lost < 2 ^ 32
  pub duplicates : n.duplicates < 2 ^ 32
  pub least : n.jitter.least < 2 ^ 32
  pub most : n.jitter.most < 2 ^ 32
  pub mean : n.jitter.mean < 2 ^ 32
  pub deviation : n.jitter.deviation < 2 ^ 32
  pub hops_least : n.hops.least < 256
  pub hops_most : n.hops.most < 256
  pub hops_mean : n.hops.mean < 256
  pub hops_deviation : n.hops.deviation < 256

-- an event whose numbers have room in the four lists' items
pub data InRange : Event → Type 0 where
  in_header : {l ssrc : ℕ} → l < 2 ^ 32 → ssrc < 2 ^ 32 → InRange (Header l ssrc)
  in_start : {type l : ℕ} → type < 256 → l < 2 ^ 24 → InRange (Start type l)
  in_ranged : {type l : ℕ} {f : Fields} → type < 256 → l < 2 ^ 24 → f.ssrc < 2 ^ 32 → f.begin < 65536
      → f.end < 65536 → f.thinning < 256 → InRange (RangedStart type l f)
  in_number : {n : ℕ} → n < 65536 → InRange (Number n)
  in_pair : {r : Receipt} → r.number < 65536 → r.time.0 < 2 ^ 32 → InRange (Pair r)
  in_entry : {e : Echo} → e.ssrc < 2 ^ 32 → e.last.0 < 2 ^ 32 → e.delay.0 < 2 ^ 32 → InRange (Entry e)
  in_time : {t : LongTime} → InRange (Time t)
  in_summed : {s : Summary} → SumsInRange (sums_of s) → InRange (Summed s)
  in_end : InRange End

pub data AllInRange : List Event → Type 0 where
  none_left : AllInRange []
  in_both : {e : Event} {es : List Event} → InRange e → AllInRange es → AllInRange (e ∷ es)
