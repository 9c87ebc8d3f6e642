-- Facts of def_dump for type 6: each line of a summary, with each number absent, the event's line, and dumps in both
-- readings.
-- RULES, "Views, cursors and the dump" and "Packets in portions".
use Rattle.std.specs.Prelude.{ℕ, ◌+◌, ◌*◌, ◌≡◌, List, [], ◌∷◌, replicate, Option, Ok, Err, Some, None}
use Rattle.def_wire.specs.declared.Spread.{Spread}
use Rattle.def_refusals.specs.declared.Refusal.TheVariants.{BadBlockLength}
use Rattle.def_wire.specs.declared.Reading.TheVariants.{Standard, Crate}
use Rattle.def_wire.specs.declared.HopsOr.{HopsOr}
use Rattle.def_wire.specs.declared.HopsOr.TheVariants.{NoHops, Ttl, HopLimit, Unknown}
use Rattle.def_wire.specs.declared.Summary.{Summary}
use Rattle.def_wire.specs.Summary.{spread, byte_spread}
use Rattle.def_text.specs.Numerals.{ascii}
use Rattle.def_portions.specs.declared.Event.TheVariants.{Summed}
use Rattle.def_dump.specs.Summaries.{span_text, counts_text, jitter_text, hops_text, summary_parts, summary_lines}
use Rattle.def_dump.specs.Dump.{summary_or, block_text, dump_text}
use Rattle.def_dump.specs.EventLines.{event_line}
use Rattle.examples.specs.Rows.{rows, packet}
use Rattle.examples.specs.Text.{text_of}

-- a block with these flags: SSRC 7, 10 to 14, and numbers from 1 on
abbrev pub words_of : ℕ → List ℕ
words_of flags =
    (0x06000009 + flags * 65536) ∷ 7 ∷ 0x000a000e ∷ 1 ∷ 2 ∷ 3 ∷ 4 ∷ 5 ∷ 6 ∷ 0x0708090a ∷ []

abbrev pub that-shows : Option ℕ → Option ℕ → Option Spread → HopsOr → Summary
that-shows l d j h = record { ssrc = 7; begin = 10; end = 14; lost = l; duplicates = d; jitter = j; hops = h }

abbrev pub full : Summary
full = that-shows (Some 1) (Some 2) (Some (spread 3 4 5 6)) (Ttl (byte_spread 7 8 9 10))

abbrev pub empty : Summary
empty = that-shows None None None NoHops

pub record Lines : Type 0 where
  pub span :
      (span_text full ≡ ascii "ssrc 7 begin 10 end 14")
      × (span_text (record {
        ssrc = 4294967295;
        begin = 65535;
        end = 0;
        lost = None;
        duplicates = None;
        jitter = None;
        hops = NoHops;
      }) ≡ ascii "ssrc 4294967295 begin 65535 end 0")
  -- both, one absent, the other, both; 0 is a number
  pub counts :
      (counts_text full ≡ ascii "lost 1 duplicates 2") × (counts_text empty ≡ ascii "lost absent duplicates absent")
      × (counts_text (that-shows None (Some 2) None NoHops) ≡ ascii "lost absent duplicates 2")
      × (counts_text (that-shows (Some 4294967295) None None NoHops)
      ≡ ascii "lost 4294967295 duplicates absent")
      × (counts_text (that-shows (Some 0) (Some 0) None NoHops) ≡ ascii "lost 0 duplicates 0")
  pub of-jitter :
      (jitter_text (Some (spread 3 4 5 6)) ≡ ascii "jitter 3 4 5 6") × (jitter_text None ≡ ascii "jitter absent")
      × (jitter_text (Some (spread 0 0 0 0)) ≡ ascii "jitter 0 0 0 0")
  pub of-hops :
      (hops_text (Ttl (byte_spread 7 8 9 10)) ≡ ascii "ttl 7 8 9 10")
      × (hops_text (HopLimit (byte_spread 7 8 9 10)) ≡ ascii "hops 7 8 9 10")
      × (hops_text NoHops ≡ ascii "ttl absent") × (hops_text Unknown ≡ ascii "toh 3 absent")
      × (hops_text (Ttl (byte_spread 0 0 0 255)) ≡ ascii "ttl 0 0 0 255")
  -- in this order, three times something between them
  pub between :
      summary_parts (ascii "; ") full
      ≡ ascii "ssrc 7 begin 10 end 14; lost 1 duplicates 2; jitter 3 4 5 6; ttl 7 8 9 10"
  pub four :
      (summary_lines full
      ≡ text_of ("ssrc 7 begin 10 end 14" ∷ "lost 1 duplicates 2" ∷ "jitter 3 4 5 6" ∷ "ttl 7 8 9 10" ∷ []))
      × (summary_lines empty
      ≡ text_of
      ("ssrc 7 begin 10 end 14" ∷ "lost absent duplicates absent" ∷ "jitter absent" ∷ "ttl absent" ∷ []))
  -- the event's one line
  pub event :
      (event_line (Summed full)
      ≡ text_of ("summary ssrc 7 begin 10 end 14; lost 1 duplicates 2; jitter 3 4 5 6; ttl 7 8 9 10" ∷ []))
      × (event_line (Summed (that-shows None (Some 2) None Unknown))
      ≡ text_of ("summary ssrc 7 begin 10 end 14; lost absent duplicates 2; jitter absent; toh 3 absent" ∷ []))

pub record Dumps : Type 0 where
  pub stated :
      (summary_or (Ok empty) ≡ summary_lines empty)
      × (summary_or (Err (BadBlockLength 40 36)) ≡ text_of ("refused 7" ∷ []))
  -- behind its block's line, in the standard reading alone
  pub block :
      (block_text Standard 2 (rows (words_of 240))
      ≡ text_of
      ("block 2 type 6 length 40" ∷ "ssrc 7 begin 10 end 14" ∷ "lost 1 duplicates 2" ∷ "jitter 3 4 5 6"
      ∷ "hops 7 8 9 10" ∷ []))
      × (block_text Crate 2 (rows (words_of 240)) ≡ text_of ("block 2 type 6 length 40" ∷ []))
  -- of another length: `refused 7`; the crate has no rule
  pub unfit :
      (block_text Standard 0 (rows (0x06000008 ∷ replicate 8 1))
      ≡ text_of ("block 0 type 6 length 36" ∷ "refused 7" ∷ []))
      × (block_text Standard 0 (rows (0x0600000a ∷ replicate 10 1))
      ≡ text_of ("block 0 type 6 length 44" ∷ "refused 7" ∷ []))
      × (block_text Standard 0 (rows (0x06000000 ∷ [])) ≡ text_of ("block 0 type 6 length 4" ∷ "refused 7" ∷ []))
      × (block_text Crate 0 (rows (0x06000000 ∷ [])) ≡ text_of ("block 0 type 6 length 4" ∷ []))
  pub packets :
      dump_text (packet (0x63000000 ∷ words_of 31))
      ≡ text_of
      ("reading standard"
      ∷ "block 0 type 99 length 4"
      ∷ "block 1 type 6 length 40"
      ∷ "ssrc 7 begin 10 end 14"
      ∷ "lost absent duplicates absent"
      ∷ "jitter absent"
      ∷ "toh 3 absent"
      ∷ "reading crate"
      ∷ "block 0 type 99 length 4"
      ∷ "block 1 type 6 length 40"
      ∷ [])
