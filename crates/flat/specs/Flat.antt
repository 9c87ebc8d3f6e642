-- The library's answers as numbers, for callers in other languages. Each is a flat copy of an answer that a
-- definition below gives.
--     reading_of      which reading a number asks for
--     flat_of ..      an answer as a code and two values: code 0 and what was found, or RULES' number of the
--                    refusal and its two values
use Rattle.std.specs.Prelude.{ℕ, cond, List, length, eqb, Ok, Err}
use Rattle.def_wire.specs.declared.Summary.{Summary}
use Rattle.def_refusals.specs.Answers.{Or}
use Rattle.def_wire.specs.declared.LongTime.{LongTime}
use Rattle.def_refusals.specs.declared.Refusal.{Refusal}
use Rattle.def_refusals.specs.declared.Numbered.{Numbered}
use Rattle.def_refusals.specs.Numbers.{numbered}
use Rattle.def_wire.specs.declared.Reading.{Reading}
use Rattle.def_wire.specs.declared.Reading.TheVariants.{Standard, Crate}
use Rattle.def_wire.specs.declared.Fields.{Fields}
use Rattle.def_wire.specs.declared.Sums.{Sums}
use Rattle.def_wire.specs.Packet.{ssrc_of, next_place, view_from}
use Rattle.def_wire.specs.Block.{type_of, specific_of, block_length}
use Rattle.def_wire.specs.Summary.{spread, byte_spread, flags_of, sums_of}
use Rattle.def_standard.specs.declared.Chunk.{Chunk}
use Rattle.def_standard.specs.declared.Chunk.TheVariants.{Null, Skip, Run, Vector}
use Rattle.def_cursor.specs.declared.Stretch.{Stretch}
use Rattle.def_cursor.specs.Cursor.{start}
use Rattle.flat.specs.declared.Flat.{Flat}
use Rattle.flat.specs.declared.FlatStretch.{FlatStretch}
use Rattle.flat.specs.declared.FlatFields.{FlatFields}
use Rattle.states.specs.declared.Followed.{Followed}
use Rattle.flat.specs.declared.FlatBlock.{FlatBlock}
use Rattle.flat.specs.declared.FlatFollowed.{FlatFollowed}
use Rattle.flat.specs.declared.FlatSummary.{FlatSummary}

-- 0 asks for the standard reading, anything else for the crate's
unfoldable pub reading_of : ℕ → Reading
reading_of r = cond (eqb r 0) Standard Crate

-- what was found: code 0 and up to two values
abbrev pub found : ℕ → ℕ → Flat
found a b = record { code = 0; first = a; second = b }

abbrev pub flat_row : Numbered → Flat
flat_row n = record { code = n.number; first = n.first; second = n.second }

-- a refusal's number and its two values
abbrev pub flat_refusal : Refusal → Flat
flat_refusal x = flat_row (numbered x)

-- a count
unfoldable pub flat_of : Or ℕ → Flat
flat_of (Ok n) = found n 0
flat_of (Err x) = flat_refusal x

-- where a view begins, and how many bytes it has
unfoldable pub flat_located : Or (ℕ × ℕ) → Flat
flat_located (Ok (at, n)) = found at n
flat_located (Err x) = flat_refusal x

-- a 64-bit time
unfoldable pub flat_time : Or LongTime → Flat
flat_time (Ok t) = found t.0 0
flat_time (Err x) = flat_refusal x

abbrev pub fields_row : Flat → Fields → FlatFields
fields_row f g = record {
  code = f.code;
  first = f.first;
  second = f.second;
  ssrc = g.ssrc;
  begin = g.begin;
  end = g.end;
  thinning = g.thinning;
}

abbrev pub no_fields : Fields
no_fields = record { ssrc = 0; begin = 0; end = 0; thinning = 0 }

-- a block's fields; all 0 where they are refused
unfoldable pub flat_fields : Or Fields → FlatFields
flat_fields (Ok g) = fields_row (found 0 0) g
flat_fields (Err x) = fields_row (flat_refusal x) no_fields

abbrev pub stretch_row : Flat → Stretch → FlatStretch
stretch_row f t =
    record {
      code = f.code;
      first = f.first;
      second = f.second;
      word = t.next.word;
      place = t.next.place;
      position = t.next.position;
      taken = t.taken;
      listed = t.listed;
    }

abbrev pub no_stretch : Stretch
no_stretch = record { next = start; taken = 0; listed = 0 }

-- a cursor's stretch; all 0 where it is refused
unfoldable pub flat_stretch : Or Stretch → FlatStretch
flat_stretch (Ok t) = stretch_row (found 0 0) t
flat_stretch (Err x) = stretch_row (flat_refusal x) no_stretch

-- a chunk word's kind by a number: 0 Null, 1 a run of zeros, 2 a run of ones, anything else a vector
unfoldable pub chunk_asked : ℕ → ℕ → Chunk
chunk_asked k value = cond (eqb k 0) Null (cond (eqb k 1) (Skip value) (cond (eqb k 2) (Run value) (Vector value)))

-- the other way: a kind's number and its value
unfoldable pub flat_chunk : Chunk → Flat
flat_chunk Null = found 0 0
flat_chunk (Skip n) = found 1 n
flat_chunk (Run n) = found 2 n
flat_chunk (Vector v) = found 3 v

-- a packet's count of blocks with its sender's SSRC
unfoldable pub flat_parsed : List ℕ → Or ℕ → Flat
flat_parsed s (Ok n) = found n (ssrc_of s)
flat_parsed s (Err x) = flat_refusal x

-- what stands at a place of a packet: where the next block begins, how many bytes the block's view has, and what its
-- header bytes say. Any place serves: past the end the view is empty, its bytes count as 0, and the place stays
unfoldable pub flat_block : Reading → List ℕ → ℕ → FlatBlock
flat_block r s at = record {
  next = next_place s at;
  size = length (view_from r s at);
  length = block_length (view_from r s at);
  kind = type_of (view_from r s at);
  specific = specific_of (view_from r s at);
}

-- code 0, where nothing is refused
unfoldable pub flat_checked : Or (Unit {0}) → Flat
flat_checked (Ok _) = found 0 0
flat_checked (Err x) = flat_refusal x

-- a call on a packet that comes in portions
abbrev pub followed_row : Flat → Followed → FlatFollowed
followed_row f r =
    record {
      code = f.code;
      first = f.first;
      second = f.second;
      taken = r.taken;
      events = r.events;
      state = r.state;
    }

unfoldable pub flat_followed : Followed → FlatFollowed
flat_followed r = followed_row (flat_checked r.refusal) r

-- a summary: its flags say which numbers are there; those that are absent are 0
abbrev pub summary_row : Flat → ℕ → Sums → FlatSummary
summary_row a flags n = record {
  code = a.code;
  first = a.first;
  second = a.second;
  ssrc = n.ssrc;
  lost = n.lost;
  duplicates = n.duplicates;
  jitter_min = n.jitter.least;
  jitter_max = n.jitter.most;
  jitter_mean = n.jitter.mean;
  jitter_deviation = n.jitter.deviation;
  begin = n.begin;
  end = n.end;
  flags = flags;
  hops_min = n.hops.least;
  hops_max = n.hops.most;
  hops_mean = n.hops.mean;
  hops_deviation = n.hops.deviation;
}

abbrev pub no_sums : Sums
no_sums = record {
  ssrc = 0;
  begin = 0;
  end = 0;
  lost = 0;
  duplicates = 0;
  jitter = spread 0 0 0 0;
  hops = byte_spread 0 0 0 0;
}

unfoldable pub flat_summary : Or Summary → FlatSummary
flat_summary (Ok s) = summary_row (found 0 0) (flags_of s) (sums_of s)
flat_summary (Err x) = summary_row (flat_refusal x) 0 no_sums
