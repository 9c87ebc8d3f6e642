-- Facts of def_wire's Summary: each number's place, each flag alone and clear, 10 and 7, and what is shown as flags and
-- numbers again.
-- RULES, "Standard reading".
--     a_block         a type 6 block with these flags, every other byte different
--     the-sums        its numbers
--     with-numbers    what it shows, by what of its numbers is there
use Rattle.std.specs.Prelude.{Option, Ok, Err, Some, None}
use Rattle.std.specs.Prelude.{ℕ, ◌+◌, ◌*◌, ◌≡◌, true, false, List, [], ◌∷◌, map, take, replicate}
use Rattle.def_wire.specs.declared.Spread.{Spread}
use Rattle.def_refusals.specs.declared.Refusal.TheVariants.{OtherType, BadBlockLength}
use Rattle.def_wire.specs.declared.Reading.TheVariants.{Standard, Crate}
use Rattle.def_wire.specs.declared.Rle.TheVariants.{Loss}
use Rattle.def_wire.specs.declared.Ranged.TheVariants.{Chunks, Times}
use Rattle.def_wire.specs.declared.Kind.TheVariants.{Spans, Clock, Echoes, Statistics}
use Rattle.def_wire.specs.declared.Sums.{Sums}
use Rattle.def_wire.specs.declared.HopsOr.{HopsOr}
use Rattle.def_wire.specs.declared.HopsOr.TheVariants.{NoHops, Ttl, HopLimit, Unknown}
use Rattle.def_wire.specs.declared.Summary.{Summary}
use Rattle.def_wire.specs.Block.{fitness, check_of}
use Rattle.def_wire.specs.Summary.{spread, byte_spread, sums_at, is_set, toh_in, count_if, jitter_if, hops_by, summary_from}
use Rattle.def_wire.specs.Summary.{summary_at, summary_of, flags_of, sums_of}
use Rattle.examples.specs.Rows.{rows}

-- the words behind the first
abbrev pub nine_words : List ℕ
nine_words =
    0x0a0b0c0d ∷ 0x11121314 ∷ 0x21222324 ∷ 0x31323334 ∷ 0x41424344 ∷ 0x51525354 ∷ 0x61626364 ∷ 0x71727374 ∷ 0x81828384
    ∷ []

abbrev pub words-with : ℕ → List ℕ
words-with flags = (0x06000009 + flags * 65536) ∷ nine_words

abbrev pub a_block : ℕ → List ℕ
a_block flags = rows (words-with flags)

-- SSRC, begin and end of these numbers
abbrev pub sums-of : ℕ → ℕ → ℕ → ℕ → Sums
sums-of lost duplicates j h = record {
  ssrc = 0x0a0b0c0d;
  begin = 0x1112;
  end = 0x1314;
  lost = lost;
  duplicates = duplicates;
  jitter = spread (0x41424344 * j) (0x51525354 * j) (0x61626364 * j) (0x71727374 * j);
  hops = byte_spread (0x81 * h) (0x82 * h) (0x83 * h) (0x84 * h);
}

abbrev pub the-sums : Sums
the-sums = sums-of 0x21222324 0x31323334 1 1

abbrev pub with-numbers : Option ℕ → Option ℕ → Option Spread → HopsOr → Summary
with-numbers l d j h = record {
  ssrc = 0x0a0b0c0d;
  begin = 0x1112;
  end = 0x1314;
  lost = l;
  duplicates = d;
  jitter = j;
  hops = h;
}

-- each number where it is there
abbrev pub lost : Option ℕ
lost = Some 0x21222324

abbrev pub twice : Option ℕ
twice = Some 0x31323334

abbrev pub jitter : Option Spread
jitter = Some (spread 0x41424344 0x51525354 0x61626364 0x71727374)

abbrev pub ttl : HopsOr
ttl = Ttl (byte_spread 0x81 0x82 0x83 0x84)

abbrev pub hops : HopsOr
hops = HopLimit (byte_spread 0x81 0x82 0x83 0x84)

-- all four, of TTL; none
abbrev pub full : Summary
full = with-numbers lost twice jitter ttl

abbrev pub empty : Summary
empty = with-numbers None None None NoHops

pub record Parts : Type 0 where
  -- four numbers in the block's order
  pub fours :
      (spread 1 2 3 4 ≡ record { least = 1; most = 2; mean = 3; deviation = 4 })
      × (byte_spread 1 2 3 4 ≡ record { least = 1; most = 2; mean = 3; deviation = 4 })
  -- every number at its own place, whatever the flags are; all bits of each
  pub places : (sums_at (a_block 0) ≡ the-sums) × (sums_at (a_block 255) ≡ the-sums)
  pub largest :
      sums_at (rows (0x06000009 ∷ replicate 9 0xffffffff))
      ≡ record {
        ssrc = 4294967295;
        begin = 65535;
        end = 65535;
        lost = 4294967295;
        duplicates = 4294967295;
        jitter = spread 4294967295 4294967295 4294967295 4294967295;
        hops = byte_spread 255 255 255 255;
      }
  -- L 128, D 64, J 32: the bit alone, all others, all, none
  pub flag-bits :
      (map (is_set 128) (128 ∷ 127 ∷ 255 ∷ 0 ∷ []) ≡ true ∷ false ∷ true ∷ false ∷ [])
      × (map (is_set 64) (64 ∷ 191 ∷ 255 ∷ 0 ∷ []) ≡ true ∷ false ∷ true ∷ false ∷ [])
      × (map (is_set 32) (32 ∷ 223 ∷ 255 ∷ 0 ∷ []) ≡ true ∷ false ∷ true ∷ false ∷ [])
  -- ToH 16 and 8: with nothing else, and with every other bit
  pub toh :
      (map toh_in (0 ∷ 8 ∷ 16 ∷ 24 ∷ []) ≡ 0 ∷ 1 ∷ 2 ∷ 3 ∷ [])
      × (map toh_in (231 ∷ 239 ∷ 247 ∷ 255 ∷ 7 ∷ 32 ∷ []) ≡ 0 ∷ 1 ∷ 2 ∷ 3 ∷ 0 ∷ 0 ∷ [])
  -- a number of 0 is there where its flag is set
  pub there :
      (count_if true 0 ≡ Some 0) × (count_if false 9 ≡ None)
      × (jitter_if true (spread 0 0 0 0) ≡ Some (spread 0 0 0 0)) × (jitter_if false (spread 1 2 3 4) ≡ None)
  pub of-hops :
      map (λ t. hops_by t (byte_spread 1 2 3 4)) (0 ∷ 1 ∷ 2 ∷ 3 ∷ [])
      ≡ NoHops ∷ Ttl (byte_spread 1 2 3 4) ∷ HopLimit (byte_spread 1 2 3 4) ∷ Unknown ∷ []

-- what is shown, by the flags
pub record Flags : Type 0 where
  -- none; each alone; ToH 1, 2 and 3 alone
  pub alone :
      map (λ f. summary_from f the-sums) (0 ∷ 128 ∷ 64 ∷ 32 ∷ 8 ∷ 16 ∷ 24 ∷ [])
      ≡ empty ∷ with-numbers lost None None NoHops ∷ with-numbers None twice None NoHops
      ∷ with-numbers None None jitter NoHops ∷ with-numbers None None None ttl
      ∷ with-numbers None None None hops ∷ with-numbers None None None Unknown ∷ []
  -- all; all but one; all with ToH 2 and 3
  pub all_but_one :
      map (λ f. summary_from f the-sums) (232 ∷ 104 ∷ 168 ∷ 200 ∷ 224 ∷ 240 ∷ 248 ∷ [])
      ≡ full ∷ with-numbers None twice jitter ttl ∷ with-numbers lost None jitter ttl
      ∷ with-numbers lost twice None ttl ∷ with-numbers lost twice jitter NoHops
      ∷ with-numbers lost twice jitter hops ∷ with-numbers lost twice jitter Unknown ∷ []
  -- the three reserved bits, each alone and with the others
  pub reserved :
      map (λ f. summary_from f the-sums) (1 ∷ 2 ∷ 4 ∷ 7 ∷ 233 ∷ 234 ∷ 236 ∷ 239 ∷ [])
      ≡ empty ∷ empty ∷ empty ∷ empty ∷ full ∷ full ∷ full ∷ full ∷ []
  -- numbers of 0 with their flags set are 0, and with their flags clear absent
  pub zeros :
      (summary_from 232 (sums-of 0 0 0 0)
      ≡ with-numbers (Some 0) (Some 0) (Some (spread 0 0 0 0)) (Ttl (byte_spread 0 0 0 0)))
      × (summary_from 0 (sums-of 0 0 0 0) ≡ empty)

-- a type 6 block of 36 bytes and of 44
abbrev pub too_short : List ℕ
too_short = rows (0x06e80008 ∷ replicate 8 1)

abbrev pub too_long : List ℕ
too_long = rows (0x06e8000a ∷ replicate 10 1)

-- of a block's view
pub record OfAView : Type 0 where
  pub shows :
      (summary_at (a_block 232) ≡ full) × (summary_of Standard (a_block 232) ≡ Ok full)
      × (summary_of Standard (a_block 0) ≡ Ok empty) × (summary_of Standard (a_block 7) ≡ Ok empty)
      × (summary_of Standard (a_block 255) ≡ Ok (with-numbers lost twice jitter Unknown))
  -- 10 with the block's own type, before 7
  pub ten :
      (summary_of Standard (rows (0x05000000 ∷ [])) ≡ Err (OtherType 5))
      × (summary_of Standard (rows (0x07000009 ∷ nine_words)) ≡ Err (OtherType 7))
      × (summary_of Standard [] ≡ Err (OtherType 0))
  -- 7 with 40 and L: of no words, four bytes less, four more
  pub seven :
      (summary_of Standard (rows (0x06000000 ∷ [])) ≡ Err (BadBlockLength 40 4))
      × (summary_of Standard too_short ≡ Err (BadBlockLength 40 36))
      × (summary_of Standard too_long ≡ Err (BadBlockLength 40 44))
  -- L is the length of what is given, not the length field's
  pub by-what-is-given :
      (summary_of Standard (rows (0x06e80003 ∷ nine_words)) ≡ Ok full)
      × (summary_of Standard (take 39 (a_block 232)) ≡ Err (BadBlockLength 40 39))
  -- the crate: 10 with 6, whatever the length is, and 10 with another type as ever
  pub crate :
      (summary_of Crate (a_block 232) ≡ Err (OtherType 6)) × (summary_of Crate too_short ≡ Err (OtherType 6))
      × (summary_of Crate (rows (0x04000002 ∷ 1 ∷ 2 ∷ [])) ≡ Err (OtherType 4))
  pub checked :
      (check_of Standard Statistics (a_block 0) ≡ Ok tt) × (check_of Crate Statistics (a_block 0) ≡ Err (OtherType 6))
      × (check_of Standard Statistics too_long ≡ Err (BadBlockLength 40 44))
      × (check_of Standard Statistics (rows (0x04000002 ∷ 1 ∷ 2 ∷ [])) ≡ Err (OtherType 4))
      × (fitness Standard Statistics too_short ≡ Err (BadBlockLength 40 36))
      × (fitness Crate Statistics (a_block 0) ≡ Err (OtherType 6))
  -- no other question is one about a summary
  pub asked-otherwise :
      (check_of Standard (Spans (Chunks Loss)) (a_block 0) ≡ Err (OtherType 6))
      × (check_of Standard (Spans Times) (a_block 0) ≡ Err (OtherType 6))
      × (check_of Standard Clock (a_block 0) ≡ Err (OtherType 6))
      × (check_of Crate Echoes (a_block 0) ≡ Err (OtherType 6))
  -- a run of ones of no length is nothing here
  pub no_words : check_of Standard Statistics (rows (0x06000009 ∷ replicate 9 0x40004000)) ≡ Ok tt

-- the flags and the numbers of what is shown, 0 where one is absent
pub record Again : Type 0 where
  pub flags :
      map flags_of
      (empty ∷ with-numbers lost None None NoHops ∷ with-numbers None twice None NoHops
      ∷ with-numbers None None jitter NoHops ∷ with-numbers None None None ttl
      ∷ with-numbers None None None hops ∷ with-numbers None None None Unknown ∷ full
      ∷ with-numbers lost twice jitter Unknown ∷ with-numbers (Some 0) (Some 0) None NoHops ∷ [])
      ≡ 0 ∷ 128 ∷ 64 ∷ 32 ∷ 8 ∷ 16 ∷ 24 ∷ 232 ∷ 248 ∷ 192 ∷ []
  pub numbers :
      (sums_of full ≡ the-sums) × (sums_of (with-numbers lost twice jitter hops) ≡ the-sums)
      × (sums_of empty ≡ sums-of 0 0 0 0) × (sums_of (with-numbers lost twice jitter Unknown)
      ≡ sums-of 0x21222324 0x31323334 1 0)
      × (sums_of (with-numbers None twice None ttl) ≡ sums-of 0 0x31323334 0 1)
      × (sums_of (with-numbers lost None jitter NoHops) ≡ sums-of 0x21222324 0 1 0)
  -- and from these the same is shown
  pub back :
      (summary_from (flags_of full) (sums_of full) ≡ full) × (summary_from (flags_of empty) (sums_of empty) ≡ empty)
      × (summary_from (flags_of (with-numbers None twice None hops))
      (sums_of (with-numbers None twice None hops))
      ≡ with-numbers None twice None hops)
      × (summary_from (flags_of (with-numbers lost None jitter Unknown))
      (sums_of (with-numbers lost None jitter Unknown))
      ≡ with-numbers lost None jitter Unknown)
