-- Facts of def_dump: each line, and dumps of whole packets (RULES, "Views, cursors and the dump").
use Rattle.std.specs.Prelude.{ℕ, ◌≡◌, [], ◌∷◌, replicate, Ok, Err}
use Rattle.def_refusals.specs.declared.Refusal.TheVariants.{WrongVersion, BlockTooLong, BadBlockLength}
use Rattle.def_wire.specs.declared.Reading.TheVariants.{Standard, Crate}
use Rattle.def_wire.specs.Block.{time_of}
use Rattle.def_cursor.specs.Cursor.{cursor}
use Rattle.def_dump.specs.Lines.{refused_line, refusal_line, block_line, fields_line, time_line, numbers_line, words_line}
use Rattle.def_dump.specs.Lines.{pairs_line, entries_line, taken_line, word_line, blocks_line, view_line, packet_line}
use Rattle.def_dump.specs.Dump.{list_or, time_or, block_text, blocks_text, reading_text, dump_text}
use Rattle.examples.specs.Vectors.{packet4}
use Rattle.examples.specs.Rows.{rows, packet, padded, fields}
use Rattle.examples.specs.Standard.{echo, pair}
use Rattle.examples.specs.Text.{text_of}

pub record Lines : Type 0 where
  pub refusals :
      (refused_line (BlockTooLong 16 12) ≡ text_of ("refused 6" ∷ []))
      × (refusal_line (BlockTooLong 16 12) ≡ text_of ("refused 6 16 12" ∷ []))
      × (refusal_line WrongVersion ≡ text_of ("refused 2 0 0" ∷ []))
  pub block : block_line 3 99 262144 ≡ text_of ("block 3 type 99 length 262144" ∷ [])
  pub of_fields : fields_line (fields 4294967295 10 14 2) ≡ text_of ("ssrc 4294967295 begin 10 end 14 thinning 2" ∷ [])
  pub time : time_line 18446744073709551615 ≡ text_of ("time 18446744073709551615" ∷ [])
  -- an empty list is its bare word
  pub lists :
      (numbers_line [] ≡ text_of ("numbers" ∷ [])) × (numbers_line (7 ∷ 65535 ∷ []) ≡ text_of ("numbers 7 65535" ∷ []))
      × (words_line (16386 ∷ []) ≡ text_of ("words 16386" ∷ []))
  pub pairs :
      (pairs_line [] ≡ text_of ("pairs" ∷ []))
      × (pairs_line (pair 5 100 ∷ pair 6 200 ∷ []) ≡ text_of ("pairs 5 100 6 200" ∷ []))
  pub entries :
      (entries_line [] ≡ text_of ("entries" ∷ []))
      × (entries_line (echo 1 2 3 ∷ echo 4 5 6 ∷ []) ≡ text_of ("entries 1 2 3 4 5 6" ∷ []))
  pub stretch : taken_line 9 (cursor 1 2 3) ≡ text_of ("taken 9 word 1 place 2 position 3" ∷ [])
  pub word : word_line 64 2 ≡ text_of ("word 4002" ∷ [])
  pub parsed : blocks_line 2 7 ≡ text_of ("blocks 2 ssrc 7" ∷ [])
  pub view : view_line 8 16 (1 ∷ 0 ∷ 0 ∷ 3 ∷ []) ≡ text_of ("view 8 16 header 01000003" ∷ [])
  pub written : packet_line (128 ∷ 207 ∷ []) ≡ text_of ("packet 80cf" ∷ [])

-- RULES' sample
pub record Sample : Type 0 where
  pub sample :
      dump_text packet4
      ≡ text_of
      ("reading standard"
      ∷ "block 0 type 1 length 16"
      ∷ "ssrc 7 begin 10 end 14 thinning 0"
      ∷ "numbers 10 11 12 13"
      ∷ "reading crate"
      ∷ "block 0 type 1 length 16"
      ∷ "ssrc 7 begin 10 end 14 thinning 0"
      ∷ "numbers 10 11"
      ∷ [])

-- a block of each type; v is a block's view
pub record Blocks : Type 0 where
  pub duplicates :
      block_text Crate 0 (rows (0x02000003 ∷ 7 ∷ 0x000a000e ∷ 0x40024003 ∷ []))
      ≡ text_of
      ("block 0 type 2 length 16" ∷ "ssrc 7 begin 10 end 14 thinning 0" ∷ "numbers 10 11" ∷ [])
  pub no-numbers :
      block_text Standard 1 (rows (0x01000002 ∷ 7 ∷ 0x000a000e ∷ []))
      ≡ text_of ("block 1 type 1 length 12" ∷ "ssrc 7 begin 10 end 14 thinning 0" ∷ "numbers" ∷ [])
  pub times :
      block_text Standard 0 (rows (0x03020004 ∷ 7 ∷ 0x00050014 ∷ 100 ∷ 200 ∷ []))
      ≡ text_of
      ("block 0 type 3 length 20" ∷ "ssrc 7 begin 5 end 20 thinning 2" ∷ "pairs 8 100 12 200" ∷ [])
  pub times-by-the-crate :
      block_text Crate 0 (rows (0x03020004 ∷ 7 ∷ 0x00050014 ∷ 100 ∷ 200 ∷ []))
      ≡ text_of
      ("block 0 type 3 length 20" ∷ "ssrc 7 begin 5 end 20 thinning 2" ∷ "pairs 5 100 9 200" ∷ [])
  pub clock :
      block_text Standard 5 (rows (0x04000002 ∷ 1 ∷ 2 ∷ []))
      ≡ text_of ("block 5 type 4 length 12" ∷ "time 4294967298" ∷ [])
  pub echoes :
      block_text Standard 0 (rows (0x05000003 ∷ 10 ∷ 11 ∷ 12 ∷ []))
      ≡ text_of ("block 0 type 5 length 16" ∷ "entries 10 11 12" ∷ [])
  -- other types show type and length only
  pub others :
      (block_text Standard 0 (rows (0x07000000 ∷ [])) ≡ text_of ("block 0 type 7 length 4" ∷ []))
      × (block_text Crate 0 (rows (0x00000000 ∷ 1 ∷ [])) ≡ text_of ("block 0 type 0 length 4" ∷ []))
  -- one `refused 7` in place of all that would follow
  pub unfit :
      (block_text Standard 0 (rows (0x01000001 ∷ 7 ∷ [])) ≡ text_of ("block 0 type 1 length 8" ∷ "refused 7" ∷ []))
      × (block_text Standard 0 (rows (0x03000001 ∷ 7 ∷ [])) ≡ text_of ("block 0 type 3 length 8" ∷ "refused 7" ∷ []))
      × (block_text Standard 0 (rows (0x04000001 ∷ 7 ∷ [])) ≡ text_of ("block 0 type 4 length 8" ∷ "refused 7" ∷ []))
      × (block_text Standard 0 (rows (0x05000001 ∷ 7 ∷ [])) ≡ text_of ("block 0 type 5 length 8" ∷ "refused 7" ∷ []))
  -- by a run of no length too, in the standard; the crate shows the block
  pub lost-run :
      (block_text Standard 0 (rows (0x01000003 ∷ 7 ∷ 0x000a000e ∷ 0x40024000 ∷ []))
      ≡ text_of ("block 0 type 1 length 16" ∷ "refused 7" ∷ []))
      × (block_text Standard 3 (rows (0x02000004 ∷ 7 ∷ 0x000a000e ∷ 0x40004001 ∷ 0 ∷ []))
      ≡ text_of ("block 3 type 2 length 20" ∷ "refused 7" ∷ []))
      × (block_text Crate 3 (rows (0x02000004 ∷ 7 ∷ 0x000a000e ∷ 0x40004001 ∷ 0 ∷ []))
      ≡ text_of ("block 3 type 2 length 20" ∷ "ssrc 7 begin 10 end 14 thinning 0" ∷ "numbers 10" ∷ []))
  -- a time that is refused
  pub no-time : time_or (time_of Standard (rows (0x04000001 ∷ 7 ∷ []))) ≡ text_of ("refused 7" ∷ [])
  -- `refused 8` in place of the fields' line alone, and then the empty list
  pub cut :
      block_text Crate 0 (rows (0x03000001 ∷ 7 ∷ []))
      ≡ text_of ("block 0 type 3 length 8" ∷ "refused 8" ∷ "pairs" ∷ [])

pub record Dumps : Type 0 where
  -- blocks are counted from 0, each at its own place; the readings differ
  pub of-two-blocks :
      reading_text Standard (packet (0x03000003 ∷ 7 ∷ 0x00050009 ∷ 100 ∷ 0x04000002 ∷ 1 ∷ 2 ∷ []))
      ≡ text_of
      ("block 0 type 3 length 16"
      ∷ "ssrc 7 begin 5 end 9 thinning 0"
      ∷ "pairs 5 100"
      ∷ "block 1 type 4 length 12"
      ∷ "time 4294967298"
      ∷ [])
  pub of-two-blocks-by-the-crate :
      reading_text Crate (packet (0x03000003 ∷ 7 ∷ 0x00050009 ∷ 100 ∷ 0x04000002 ∷ 1 ∷ 2 ∷ []))
      ≡ text_of
      ("block 0 type 3 length 16"
      ∷ "ssrc 7 begin 5 end 9 thinning 0"
      ∷ "pairs 5 100 6 67108866 7 1 8 2"
      ∷ "block 1 type 4 length 12"
      ∷ "time 4294967298"
      ∷ [])
  -- a run of no length, and a block behind it
  pub of-a-lost-run :
      dump_text (packet (0x01000003 ∷ 7 ∷ 0x000a000e ∷ 0x40024000 ∷ 0x63000000 ∷ []))
      ≡ text_of
      ("reading standard"
      ∷ "block 0 type 1 length 16"
      ∷ "refused 7"
      ∷ "block 1 type 99 length 4"
      ∷ "reading crate"
      ∷ "block 0 type 1 length 16"
      ∷ "ssrc 7 begin 10 end 14 thinning 0"
      ∷ "numbers 10 11"
      ∷ "block 1 type 99 length 4"
      ∷ [])
  -- begin off the grid: by the standard from the first number on it, by the crate from begin
  pub off-the-grid :
      dump_text (packet (0x01020003 ∷ 7 ∷ 0x00050014 ∷ 0x40040000 ∷ []))
      ≡ text_of
      ("reading standard"
      ∷ "block 0 type 1 length 16"
      ∷ "ssrc 7 begin 5 end 20 thinning 2"
      ∷ "numbers 8 12 16"
      ∷ "reading crate"
      ∷ "block 0 type 1 length 16"
      ∷ "ssrc 7 begin 5 end 20 thinning 2"
      ∷ "numbers 5 9 13 17"
      ∷ [])
  -- and where end comes before it
  pub none-on-the-grid :
      dump_text (packet (0x01020003 ∷ 7 ∷ 0x00050008 ∷ 0x40010000 ∷ []))
      ≡ text_of
      ("reading standard"
      ∷ "block 0 type 1 length 16"
      ∷ "ssrc 7 begin 5 end 8 thinning 2"
      ∷ "numbers"
      ∷ "reading crate"
      ∷ "block 0 type 1 length 16"
      ∷ "ssrc 7 begin 5 end 8 thinning 2"
      ∷ "numbers 5"
      ∷ [])
  -- from block 1 on
  pub from-the-second :
      blocks_text Standard (packet (0x63000000 ∷ 0x62000000 ∷ 0x61000000 ∷ [])) 1 2
      ≡ text_of ("block 1 type 98 length 4" ∷ "block 2 type 97 length 4" ∷ [])
  -- no blocks; a reading that refuses the packet is `refused N` alone
  pub of-no-blocks :
      dump_text (packet []) ≡ text_of ("reading standard" ∷ "reading crate" ∷ "refused 1" ∷ [])
  pub refused-by-the-standard :
      dump_text (padded (1 ∷ 4 ∷ []))
      ≡ text_of ("reading standard" ∷ "refused 6" ∷ "reading crate" ∷ "block 0 type 0 length 8" ∷ [])
  -- 16,384 items of a list are shown, and one more is not; a list that is refused for another reason
  pub most-shown :
      (list_or {A = ℕ} (λ l. 7 ∷ []) (Ok (replicate 16384 0)) ≡ 7 ∷ [])
      × (list_or {A = ℕ} (λ l. 7 ∷ []) (Ok (replicate 16385 0)) ≡ text_of ("refused 11" ∷ []))
      × (list_or {A = ℕ} (λ l. 7 ∷ []) (Err (BadBlockLength 12 8)) ≡ text_of ("refused 7" ∷ []))
  -- 65,536 bytes are dumped, and one more is not
  pub longest :
      (dump_text (replicate 65536 0) ≡ text_of ("reading standard" ∷ "refused 2" ∷ "reading crate" ∷ "refused 2" ∷ []))
      × (dump_text (replicate 65537 0) ≡ text_of ("refused 11" ∷ []))
  -- the empty input
  pub of-nothing :
      dump_text [] ≡ text_of ("reading standard" ∷ "refused 1" ∷ "reading crate" ∷ "refused 1" ∷ [])
