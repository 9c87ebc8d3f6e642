-- The Statistics Summary block (RFC 3611, 4.6; RULES, "Standard reading").
--     sums_at         its numbers as they stand, of its view v
--     summary_from    what is shown of them, by the flags: a number whose flag is clear is absent
--     summary_at      what a view shows
--     summary_of      the answer to the question for a summary
--     flags_of, sums_of     the flags and numbers of what is shown, 0 where one is absent: `summary_from` of these
--                         is it again
use Rattle.std.specs.Prelude.{Option, Ok, Err, Some, None}
use Rattle.std.specs.Prelude.{ℕ, ◌+◌, ◌*◌, ◌/◌, ◌%◌, Bool, true, false, cond, List, eqb}
use Rattle.def_refusals.specs.Answers.{Or}
use Rattle.def_wire.specs.declared.Reading.{Reading}
use Rattle.def_wire.specs.declared.Kind.TheVariants.{Statistics}
use Rattle.def_wire.specs.declared.Spread.{Spread}
use Rattle.def_wire.specs.declared.ByteSpread.{ByteSpread}
use Rattle.def_wire.specs.declared.Sums.{Sums}
use Rattle.def_wire.specs.declared.HopsOr.{HopsOr}
use Rattle.def_wire.specs.declared.HopsOr.TheVariants.{NoHops, Ttl, HopLimit, Unknown}
use Rattle.def_wire.specs.declared.Summary.{Summary}
use Rattle.def_wire.specs.Bytes.{byte_at, be16, be32}
use Rattle.def_wire.specs.Block.{specific_of, check_of}

abbrev pub spread : ℕ → ℕ → ℕ → ℕ → Spread
spread a b c d = record { least = a; most = b; mean = c; deviation = d }

abbrev pub byte_spread : ℕ → ℕ → ℕ → ℕ → ByteSpread
byte_spread a b c d = record { least = a; most = b; mean = c; deviation = d }

-- SSRC, begin and end; lost and duplicates; four numbers of jitter; four bytes of TTL or hop limit
abbrev pub sums_at : List ℕ → Sums
sums_at v = record {
  ssrc = be32 v 4;
  begin = be16 v 8;
  end = be16 v 10;
  lost = be32 v 12;
  duplicates = be32 v 16;
  jitter = spread (be32 v 20) (be32 v 24) (be32 v 28) (be32 v 32);
  hops = byte_spread (byte_at v 36) (byte_at v 37) (byte_at v 38) (byte_at v 39);
}

-- the specific byte, from the top: L 128, D 64, J 32, ToH 16 and 8, three bits that nobody looks at
abbrev pub is_set : ℕ → ℕ → Bool
is_set bit flags = eqb (flags / bit % 2) 1

abbrev pub toh_in : ℕ → ℕ
toh_in flags = flags / 8 % 4

abbrev pub count_if : Bool → ℕ → Option ℕ
count_if true n = Some n
count_if false n = None

abbrev pub jitter_if : Bool → Spread → Option Spread
jitter_if true x = Some x
jitter_if false x = None

abbrev pub hops_by : ℕ → ByteSpread → HopsOr
hops_by toh x = cond (eqb toh 0) NoHops (cond (eqb toh 1) (Ttl x) (cond (eqb toh 2) (HopLimit x) Unknown))

unfoldable pub summary_from : ℕ → Sums → Summary
summary_from flags n = record {
  ssrc = n.ssrc;
  begin = n.begin;
  end = n.end;
  lost = count_if (is_set 128 flags) n.lost;
  duplicates = count_if (is_set 64 flags) n.duplicates;
  jitter = jitter_if (is_set 32 flags) n.jitter;
  hops = hops_by (toh_in flags) n.hops;
}

abbrev pub summary_at : List ℕ → Summary
summary_at v = summary_from (specific_of v) (sums_at v)

abbrev pub on_checked_summary : Or (Unit {0}) → Summary → Or Summary
on_checked_summary (Ok _) s = Ok s
on_checked_summary (Err x) s = Err x

-- of a block asked as type 6: 10, then 7; of the crate always 10
unfoldable pub summary_of : Reading → List ℕ → Or Summary
summary_of r v = on_checked_summary (check_of r Statistics v) (summary_at v)

-- ---- the flags and the numbers of what is shown

abbrev pub count_flag : ℕ → Option ℕ → ℕ
count_flag bit (Some n) = bit
count_flag bit None = 0

abbrev pub jitter_flag : Option Spread → ℕ
jitter_flag (Some x) = 32
jitter_flag None = 0

-- ToH, 0 to 3
abbrev pub toh_of : HopsOr → ℕ
toh_of NoHops = 0
toh_of (Ttl x) = 1
toh_of (HopLimit x) = 2
toh_of Unknown = 3

unfoldable pub flags_of : Summary → ℕ
flags_of s = count_flag 128 s.lost + count_flag 64 s.duplicates + jitter_flag s.jitter + toh_of s.hops * 8

abbrev pub given_of : Option ℕ → ℕ
given_of (Some n) = n
given_of None = 0

abbrev pub jitter_of : Option Spread → Spread
jitter_of (Some x) = x
jitter_of None = spread 0 0 0 0

abbrev pub hops_of : HopsOr → ByteSpread
hops_of NoHops = byte_spread 0 0 0 0
hops_of (Ttl x) = x
hops_of (HopLimit x) = x
hops_of Unknown = byte_spread 0 0 0 0

unfoldable pub sums_of : Summary → Sums
sums_of s = record {
  ssrc = s.ssrc;
  begin = s.begin;
  end = s.end;
  lost = given_of s.lost;
  duplicates = given_of s.duplicates;
  jitter = jitter_of s.jitter;
  hops = hops_of s.hops;
}
