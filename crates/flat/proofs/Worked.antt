-- Worked facts of `Flat`, each computed: what is laid out of a packet, of a place in it, of a chunk word.
--     sample, short      packets: a loss block and one of type 6; four bytes
--     summed             a summary without lost, and with a hop limit
--     Laid, laid         the facts, and that they hold
use Rattle.std.specs.Prelude.{Ok, Err, Some, None}
use Prim.Native.Nat.{ℕ}
use mathlib.Core.Path.{◌≡◌, refl}
use mathlib.Core.List.{List, [], ◌∷◌}
use Rattle.def_refusals.specs.declared.Refusal.TheVariants.{BadBlockLength}
use Rattle.def_refusals.specs.Numbers.{numbered}
use Rattle.def_wire.specs.declared.Reading.TheVariants.{Standard, Crate}
use Rattle.def_wire.specs.declared.HopsOr.TheVariants.{HopLimit}
use Rattle.def_wire.specs.declared.Summary.{Summary}
use Rattle.def_wire.specs.Packet.{header_of, walk_from, count_of}
use Rattle.def_wire.specs.Summary.{spread, byte_spread, flags_of, sums_of}
use Rattle.def_standard.specs.declared.Chunk.TheVariants.{Vector}
use Rattle.def_standard.specs.Chunks.{chunk_of}
use Rattle.flat.specs.declared.FlatSummary.{FlatSummary}
use Rattle.flat.specs.Flat.{reading_of, chunk_asked, found, flat_chunk, flat_parsed, flat_block, flat_summary}
use Rattle.flat.proofs.BlockLaws.{block_row}

-- sender 5; a loss block of 16 bytes with specific byte 3; a block of type 6 and 4 bytes
abbrev pub sample : List ℕ
sample =
    128 ∷ 207 ∷ 0 ∷ 6 ∷ 0 ∷ 0 ∷ 0 ∷ 5 ∷ 1 ∷ 3 ∷ 0 ∷ 3 ∷ 0 ∷ 0 ∷ 0 ∷ 7 ∷ 0 ∷ 10 ∷ 0 ∷ 14 ∷ 64 ∷ 2 ∷ 64 ∷ 2 ∷ 6 ∷ 0
    ∷ 0 ∷ 0 ∷ []

abbrev pub short : List ℕ
short = 128 ∷ 207 ∷ 0 ∷ 0 ∷ []

abbrev pub summed : Summary
summed = record {
  ssrc = 1;
  begin = 2;
  end = 3;
  lost = None;
  duplicates = Some 5;
  jitter = Some (spread 6 7 8 9);
  hops = HopLimit (byte_spread 10 11 12 13);
}

abbrev pub summed_flat : FlatSummary
summed_flat = record {
  code = 0;
  first = 0;
  second = 0;
  ssrc = 1;
  lost = 0;
  duplicates = 5;
  jitter_min = 6;
  jitter_max = 7;
  jitter_mean = 8;
  jitter_deviation = 9;
  begin = 2;
  end = 3;
  flags = 112;
  hops_min = 10;
  hops_max = 11;
  hops_mean = 12;
  hops_deviation = 13;
}

-- refused as 7 (40, 44)
abbrev pub unsummed_flat : FlatSummary
unsummed_flat = record {
  code = 7;
  first = 40;
  second = 44;
  ssrc = 0;
  lost = 0;
  duplicates = 0;
  jitter_min = 0;
  jitter_max = 0;
  jitter_mean = 0;
  jitter_deviation = 0;
  begin = 0;
  end = 0;
  flags = 0;
  hops_min = 0;
  hops_max = 0;
  hops_mean = 0;
  hops_deviation = 0;
}

pub record Laid : Type 0 where
  -- numbers without a meaning: a reading of 7, a kind of word 9
  pub nonsense : (reading_of 7 ≡ Crate) × (chunk_asked 9 5 ≡ Vector 5)
  pub standard : reading_of 0 ≡ Standard
  -- the word 0, runs of three zeros and of two ones, a vector whose last place is one
  pub chunks :
      (flat_chunk (chunk_of 0) ≡ found 0 0) × (flat_chunk (chunk_of 3) ≡ found 1 3)
      × (flat_chunk (chunk_of 16386) ≡ found 2 2) × (flat_chunk (chunk_of 32769) ≡ found 3 1)
  -- how many blocks, and who sent them; a refusal with its values
  pub parsed :
      (flat_parsed sample (count_of Standard sample) ≡ found 2 5)
      × (flat_parsed short (count_of Crate short) ≡ record { code = 1; first = 12; second = 4 })
  -- the first block: its own bytes in the standard, everything left in the crate's
  pub first_block :
      (flat_block Standard sample 8 ≡ block_row 24 16 16 1 3) × (flat_block Crate sample 8 ≡ block_row 24 20 16 1 3)
  pub last_block : flat_block Crate sample 24 ≡ block_row 28 4 4 6 0
  -- two bytes from the end, where a header's length is cut, and past the end, where the place stays
  pub cut : flat_block Standard sample 26 ≡ block_row 30 2 4 0 0
  pub past :
      (flat_block Standard sample 28 ≡ block_row 28 0 4 0 0) × (flat_block Crate sample 1000 ≡ block_row 1000 0 4 0 0)
  -- D, J and ToH 2 are set; an absent number is 0
  pub summary :
      (flat_summary (Ok summed) ≡ summed_flat) × (flat_summary (Err (BadBlockLength 40 44)) ≡ unsummed_flat)

pub laid : Laid
unfolding reading_of chunk_asked flat_chunk chunk_of flat_parsed count_of header_of walk_from numbered flat_block flat_summary
    flags_of sums_of
laid =
    record {
      nonsense = (refl, refl);
      standard = refl;
      chunks = (refl, refl, refl, refl);
      parsed = (refl, refl);
      first_block = (refl, refl);
      last_block = refl;
      cut = refl;
      past = (refl, refl);
      summary = (refl, refl);
    }
