-- Facts of def_probe: what xrprobe answers to requests of each kind, shown and refused, and each way in which a
-- request is cut (README, "xrprobe"). The packets are written as `packet` writes them, numbers in a payload by `le4`.
use Rattle.std.specs.Prelude.{ℕ, ◌≡◌, true, false, List, [], ◌∷◌, ◌++◌, replicate, Ok, Err}
use Prim.Native.String.{String}
use Rattle.def_refusals.specs.declared.Refusal.TheVariants.{BadBlockLength}
use Rattle.def_wire.specs.declared.Reading.TheVariants.{Standard, Crate}
use Rattle.def_standard.specs.declared.Chunk.TheVariants.{Null, Skip, Run, Vector}
use Rattle.def_probe.specs.Requests.{Reply, told, cut, reply_text, is_told, reading_first, line_in, list_room, chunk_asked}
use Rattle.def_probe.specs.Requests.{most_listed, most_written, most_made, answer_to}
use Rattle.examples.specs.Vectors.{packet4}
use Rattle.examples.specs.Rows.{packet, le4, header, report}
use Rattle.examples.specs.Text.{text_of}

-- a reply of these lines
abbrev pub says : List String → Reply
says lines = told (text_of lines)

-- kinds 2, 9 and 14: reading, block, asked type, room
abbrev pub lists : ℕ → ℕ → ℕ → ℕ → List ℕ → List ℕ
lists r k t room s = r ∷ (le4 k ++ (t ∷ (le4 room ++ s)))

-- kind 3: reading, block, asked type
abbrev pub asks : ℕ → ℕ → ℕ → List ℕ → List ℕ
asks r k t s = r ∷ (le4 k ++ (t ∷ s))

-- kind 4: block, asked type, cursor, budget, room
abbrev pub steps : ℕ → ℕ → ℕ → ℕ → ℕ → ℕ → ℕ → List ℕ → List ℕ
steps k t word place position budget room s =
    le4 k ++ (t ∷ (le4 word ++ (le4 place ++ (le4 position ++ (le4 budget ++ (le4 room ++ s))))))

-- kind 7: kind of word, value, room
abbrev pub makes : ℕ → ℕ → ℕ → List ℕ
makes k value room = k ∷ (le4 value ++ le4 room)

-- a block of each of types 3 and 5
abbrev pub times : List ℕ
times = packet (0x03000004 ∷ 7 ∷ 0x00050007 ∷ 100 ∷ 200 ∷ [])

abbrev pub echoed : List ℕ
echoed = packet (0x05000003 ∷ 10 ∷ 11 ∷ 12 ∷ [])

abbrev pub clocked : List ℕ
clocked = packet (0x04000002 ∷ 1 ∷ 2 ∷ [])

-- a duplicate block, and two blocks of which the second is a loss block
abbrev pub doubled : List ℕ
doubled = packet (0x02000003 ∷ 7 ∷ 0x000a000e ∷ 0x40024002 ∷ [])

abbrev pub second : List ℕ
second = packet (0x63000000 ∷ 0x01000003 ∷ 7 ∷ 0x000a000e ∷ 0x40024002 ∷ [])

-- a loss block with a run of ones of no length in its last word
abbrev pub lost : List ℕ
lost = packet (0x01000003 ∷ 7 ∷ 0x000a000e ∷ 0x40024000 ∷ [])

-- a loss block from 5 to 20 by fours, and a type 3 block of the same
abbrev pub off : List ℕ
off = packet (0x01020003 ∷ 7 ∷ 0x00050014 ∷ 0x40024002 ∷ [])

abbrev pub off-times : List ℕ
off-times = packet (0x03020004 ∷ 7 ∷ 0x00050014 ∷ 100 ∷ 200 ∷ [])

-- one receipt time, and a clock behind it
abbrev pub two_blocks : List ℕ
two_blocks = packet (0x03000003 ∷ 7 ∷ 0x00050009 ∷ 100 ∷ 0x04000002 ∷ 1 ∷ 2 ∷ [])

-- the job list of a report on 10 to 13
abbrev pub reported : List ℕ
reported = header 0 ++ report 1 10 14 0 (16386 ∷ 16386 ∷ [])

pub record Parts : Type 0 where
  pub of-a-reply :
      (reply_text (says ("time 1" ∷ [])) ≡ text_of ("time 1" ∷ [])) × (reply_text cut ≡ [])
      × (is_told (says []) ≡ true) × (is_told cut ≡ false)
  pub rooms : (most_listed ≡ 16384) × (most_written ≡ 262144) × (most_made ≡ 8)
  pub readings :
      (reading_first (0 ∷ 1 ∷ []) ≡ Standard) × (reading_first (1 ∷ 0 ∷ []) ≡ Crate) × (reading_first (2 ∷ []) ≡ Crate)
  -- room for just as many, one too few, and a list that is refused for another reason
  pub in-room :
      (line_in {A = ℕ} 3 (λ l. l) (Ok (7 ∷ 8 ∷ 9 ∷ [])) ≡ 7 ∷ 8 ∷ 9 ∷ [])
      × (line_in {A = ℕ} 2 (λ l. l) (Ok (7 ∷ 8 ∷ 9 ∷ [])) ≡ text_of ("refused 11 3 2" ∷ []))
      × (line_in {A = ℕ} 2 (λ l. l) (Err (BadBlockLength 12 8)) ≡ text_of ("refused 7 12 8" ∷ []))
  pub rooms-of-lists :
      (list_room (le4 16384) 0 ≡ 16384) × (list_room (le4 16385) 0 ≡ 16384) × (list_room (le4 4294967295) 0 ≡ 16384)
      × (list_room (9 ∷ le4 5) 1 ≡ 5)
  pub chunks :
      (chunk_asked 0 9 ≡ Null) × (chunk_asked 1 9 ≡ Skip 9) × (chunk_asked 2 9 ≡ Run 9) × (chunk_asked 3 9 ≡ Vector 9)

-- kind 1
pub record OfDump : Type 0 where
  pub a-dump : answer_to 1 [] ≡ says ("reading standard" ∷ "refused 1" ∷ "reading crate" ∷ "refused 1" ∷ [])

-- kinds 2, 9 and 14
pub record OfLists : Type 0 where
  -- the readings differ; 4 items fit into room for 4
  pub numbers :
      (answer_to 2 (lists 0 0 1 4 packet4) ≡ says ("numbers 10 11 12 13" ∷ []))
      × (answer_to 2 (lists 1 0 1 4 packet4) ≡ says ("numbers 10 11" ∷ []))
      × (answer_to 2 (lists 0 0 2 99 doubled) ≡ says ("numbers 10 11 12 13" ∷ []))
      × (answer_to 2 (lists 0 1 1 99 second) ≡ says ("numbers 10 11 12 13" ∷ []))
  pub numbers-refused :
      (answer_to 2 (lists 0 0 1 3 packet4) ≡ says ("refused 11 4 3" ∷ []))
      × (answer_to 2 (lists 1 0 1 1 packet4) ≡ says ("refused 11 2 1" ∷ []))
      × (answer_to 2 (lists 0 1 1 99 packet4) ≡ says ("refused 9 1 0" ∷ []))
      × (answer_to 2 (lists 0 0 2 99 packet4) ≡ says ("refused 10 1 0" ∷ []))
  pub pairs :
      (answer_to 2 (lists 0 0 3 2 times) ≡ says ("pairs 5 100 6 200" ∷ []))
      × (answer_to 2 (lists 0 0 3 1 times) ≡ says ("refused 11 2 1" ∷ []))
      × (answer_to 2 (lists 1 0 3 9 packet4) ≡ says ("refused 10 1 0" ∷ []))
      × (answer_to 2 (lists 0 1 3 9 times) ≡ says ("refused 9 1 0" ∷ []))
  -- the crate reads on into the next block
  pub pairs-by-reading :
      (answer_to 2 (lists 0 0 3 9 two_blocks) ≡ says ("pairs 5 100" ∷ []))
      × (answer_to 2 (lists 1 0 3 9 two_blocks) ≡ says ("pairs 5 100 6 67108866 7 1 8 2" ∷ []))
  pub entries :
      (answer_to 2 (lists 0 0 5 1 echoed) ≡ says ("entries 10 11 12" ∷ []))
      × (answer_to 2 (lists 0 0 5 0 echoed) ≡ says ("refused 11 1 0" ∷ []))
      × (answer_to 2 (lists 0 0 5 9 packet4) ≡ says ("refused 10 1 0" ∷ []))
      × (answer_to 2 (lists 0 1 5 9 echoed) ≡ says ("refused 9 1 0" ∷ []))
      × (answer_to 2 (lists 0 0 5 9 (packet [])) ≡ says ("refused 9 0 0" ∷ []))
      × (answer_to 2 (lists 1 0 5 9 (packet [])) ≡ says ("refused 1 12 8" ∷ []))
  -- types that kind 2 does not serve, which 9 and 14 answer
  pub types-not-served :
      (answer_to 2 (lists 0 0 0 9 packet4) ≡ cut) × (answer_to 2 (lists 0 0 4 9 packet4) ≡ cut)
      × (answer_to 2 (lists 0 0 6 9 packet4) ≡ cut)
      × (answer_to 9 (lists 0 0 4 9 packet4) ≡ says ("refused 10 1 0" ∷ []))
      × (answer_to 14 (lists 0 0 4 9 packet4) ≡ says ("refused 10 1 0" ∷ []))
      × (answer_to 14 (lists 0 0 3 9 times) ≡ says ("refused 10 3 0" ∷ []))
  pub words :
      (answer_to 9 (lists 0 0 1 2 packet4) ≡ says ("words 16386 16386" ∷ []))
      × (answer_to 9 (lists 0 0 1 1 packet4) ≡ says ("refused 11 2 1" ∷ []))
      × (answer_to 9 (lists 1 0 1 1 packet4) ≡ says ("words 16386" ∷ []))
      × (answer_to 9 (lists 0 1 1 2 second) ≡ says ("words 16386 16386" ∷ []))
  -- a run of no length, with room and without: 7 in the standard
  pub lost-run :
      (answer_to 2 (lists 0 0 1 9 lost) ≡ says ("refused 7 12 16" ∷ []))
      × (answer_to 2 (lists 0 0 1 0 lost) ≡ says ("refused 7 12 16" ∷ []))
      × (answer_to 9 (lists 0 0 1 9 lost) ≡ says ("refused 7 12 16" ∷ []))
      × (answer_to 9 (lists 0 0 1 1 lost) ≡ says ("refused 7 12 16" ∷ []))
      × (answer_to 14 (lists 0 0 1 0 lost) ≡ says ("refused 7 12 16" ∷ []))
      × (answer_to 2 (lists 1 0 1 9 lost) ≡ says ("numbers 10 11" ∷ []))
      × (answer_to 9 (lists 1 0 1 1 lost) ≡ says ("words 16386" ∷ []))
  -- begin off the grid: three numbers fit into room for three
  pub off-the-grid :
      (answer_to 2 (lists 0 0 1 3 off) ≡ says ("numbers 8 12 16" ∷ []))
      × (answer_to 2 (lists 0 0 1 2 off) ≡ says ("refused 11 3 2" ∷ []))
      × (answer_to 2 (lists 1 0 1 2 off) ≡ says ("numbers 5 9" ∷ []))
      × (answer_to 14 (lists 0 0 1 3 off) ≡ says ("numbers 8 12 16" ∷ []))
      × (answer_to 2 (lists 0 0 3 2 off-times) ≡ says ("pairs 8 100 12 200" ∷ []))
      × (answer_to 2 (lists 1 0 3 2 off-times) ≡ says ("pairs 5 100 9 200" ∷ []))
  pub of-any-type :
      (answer_to 14 (lists 1 0 1 4 packet4) ≡ says ("numbers 10 11" ∷ []))
      × (answer_to 14 (lists 0 0 1 3 packet4) ≡ says ("refused 11 4 3" ∷ []))
  -- nine bytes are too few and ten are enough; a reading of 2
  pub cut-lists :
      (answer_to 2 (0 ∷ 0 ∷ 0 ∷ 0 ∷ 0 ∷ 1 ∷ 9 ∷ 0 ∷ 0 ∷ []) ≡ cut)
      × (answer_to 2 (lists 0 0 1 9 []) ≡ says ("refused 1 8 0" ∷ []))
      × (answer_to 2 (lists 2 0 1 9 packet4) ≡ cut)
  pub cut-words :
      (answer_to 9 (0 ∷ 0 ∷ 0 ∷ 0 ∷ 0 ∷ 1 ∷ 9 ∷ 0 ∷ 0 ∷ []) ≡ cut)
      × (answer_to 9 (lists 1 0 1 9 []) ≡ says ("refused 1 12 0" ∷ []))
      × (answer_to 9 (lists 2 0 1 9 packet4) ≡ cut)
  pub cut-numbers :
      (answer_to 14 (0 ∷ 0 ∷ 0 ∷ 0 ∷ 0 ∷ 1 ∷ 9 ∷ 0 ∷ 0 ∷ []) ≡ cut)
      × (answer_to 14 (lists 1 0 1 9 []) ≡ says ("refused 1 12 0" ∷ []))
      × (answer_to 14 (lists 2 0 1 9 packet4) ≡ cut)

-- kinds 3, 8 and 11
pub record OfBlocks : Type 0 where
  pub fields :
      (answer_to 3 (asks 0 0 1 packet4) ≡ says ("ssrc 7 begin 10 end 14 thinning 0" ∷ []))
      × (answer_to 3 (asks 0 0 2 packet4) ≡ says ("refused 10 1 0" ∷ []))
      × (answer_to 3 (asks 1 1 1 packet4) ≡ says ("refused 9 1 0" ∷ []))
      × (answer_to 3 (asks 0 0 1 (packet [])) ≡ says ("refused 9 0 0" ∷ []))
      × (answer_to 3 (asks 1 0 1 (packet [])) ≡ says ("refused 1 12 8" ∷ []))
  pub fields-of-a-lost-run :
      (answer_to 3 (asks 0 0 1 lost) ≡ says ("refused 7 12 16" ∷ []))
      × (answer_to 3 (asks 0 0 2 lost) ≡ says ("refused 10 1 0" ∷ []))
      × (answer_to 3 (asks 1 0 1 lost) ≡ says ("ssrc 7 begin 10 end 14 thinning 0" ∷ []))
      × (answer_to 8 (0 ∷ lost) ≡ says ("blocks 1 ssrc 1" ∷ []))
      × (answer_to 11 (0 ∷ (le4 0 ++ lost)) ≡ says ("view 8 16 header 01000003" ∷ []))
  pub time :
      (answer_to 3 (asks 0 0 4 clocked) ≡ says ("time 4294967298" ∷ []))
      × (answer_to 3 (asks 0 0 4 packet4) ≡ says ("refused 10 1 0" ∷ []))
      × (answer_to 3 (asks 0 0 5 clocked) ≡ says ("refused 10 4 0" ∷ []))
      × (answer_to 3 (asks 0 1 4 clocked) ≡ says ("refused 9 1 0" ∷ []))
      × (answer_to 3 (asks 0 0 4 (packet [])) ≡ says ("refused 9 0 0" ∷ []))
      × (answer_to 3 (asks 1 0 4 (packet [])) ≡ says ("refused 1 12 8" ∷ []))
  pub parsed :
      (answer_to 8 (0 ∷ packet4) ≡ says ("blocks 1 ssrc 1" ∷ []))
      × (answer_to 8 (0 ∷ packet []) ≡ says ("blocks 0 ssrc 1" ∷ []))
      × (answer_to 8 (1 ∷ packet []) ≡ says ("refused 1 12 8" ∷ []))
  -- the crate's view goes to the packet's end
  pub view :
      (answer_to 11 (0 ∷ (le4 1 ++ second)) ≡ says ("view 12 16 header 01000003" ∷ []))
      × (answer_to 11 (0 ∷ (le4 0 ++ second)) ≡ says ("view 8 4 header 63000000" ∷ []))
      × (answer_to 11 (1 ∷ (le4 0 ++ second)) ≡ says ("view 8 20 header 63000000" ∷ []))
      × (answer_to 11 (0 ∷ (le4 2 ++ second)) ≡ says ("refused 9 2 0" ∷ []))
  pub cut-shown :
      (answer_to 3 (0 ∷ 0 ∷ 0 ∷ 0 ∷ 0 ∷ []) ≡ cut) × (answer_to 3 (asks 0 0 1 []) ≡ says ("refused 1 8 0" ∷ []))
      × (answer_to 3 (asks 2 0 1 packet4) ≡ cut)
  pub cut-parsed :
      (answer_to 8 [] ≡ cut) × (answer_to 8 (1 ∷ []) ≡ says ("refused 1 12 0" ∷ [])) × (answer_to 8 (2 ∷ packet4) ≡ cut)
  pub cut-view :
      (answer_to 11 (0 ∷ 0 ∷ 0 ∷ 0 ∷ []) ≡ cut) × (answer_to 11 (0 ∷ le4 0) ≡ says ("refused 1 8 0" ∷ []))
      × (answer_to 11 (2 ∷ (le4 0 ++ packet4)) ≡ cut)

-- kind 4
pub record OfStretches : Type 0 where
  pub a-stretch :
      (answer_to 4 (steps 0 1 0 1 1 2 2 packet4) ≡ says ("taken 2 word 1 place 1 position 3" ∷ "numbers 11 12" ∷ []))
      × (answer_to 4 (steps 1 1 0 0 0 9 9 second)
      ≡ says ("taken 4 word 2 place 0 position 4" ∷ "numbers 10 11 12 13" ∷ []))
  -- more steps than numbers: two places of value zero first
  pub steps-and-numbers :
      answer_to 4 (steps 0 1 0 0 0 3 3 (packet (0x01000003 ∷ 7 ∷ 0x000a000e ∷ 0x00024002 ∷ [])))
      ≡ says ("taken 3 word 1 place 1 position 3" ∷ "numbers 12" ∷ [])
  pub off-the-grid :
      (answer_to 4 (steps 0 1 0 0 0 9 9 off) ≡ says ("taken 4 word 2 place 0 position 4" ∷ "numbers 8 12 16" ∷ []))
      × (answer_to 4 (steps 0 1 1 0 2 1 1 off) ≡ says ("taken 1 word 1 place 1 position 3" ∷ "numbers 16" ∷ []))
      × (answer_to 4 (steps 0 1 1 1 3 1 1 off) ≡ says ("taken 1 word 2 place 0 position 4" ∷ "numbers" ∷ []))
  -- by the budget, by the place, by the asked type, by the block
  pub refused-stretches :
      (answer_to 4 (steps 0 1 0 1 1 2 1 packet4) ≡ says ("refused 11 2 1" ∷ []))
      × (answer_to 4 (steps 0 1 0 2 1 2 2 packet4) ≡ says ("refused 16 0 0" ∷ []))
      × (answer_to 4 (steps 0 7 0 0 0 2 2 packet4) ≡ says ("refused 10 1 0" ∷ []))
      × (answer_to 4 (steps 5 1 0 0 0 2 2 packet4) ≡ says ("refused 9 1 0" ∷ []))
      × (answer_to 4 (steps 0 1 0 0 0 16385 16385 packet4) ≡ says ("refused 11 16385 16384" ∷ []))
  -- a run of no length: before the place and the room are looked at
  pub lost-run :
      (answer_to 4 (steps 0 1 0 0 0 2 2 lost) ≡ says ("refused 7 12 16" ∷ []))
      × (answer_to 4 (steps 0 1 0 2 0 2 1 lost) ≡ says ("refused 7 12 16" ∷ []))
      × (answer_to 4 (steps 0 2 0 0 0 2 2 lost) ≡ says ("refused 10 1 0" ∷ []))
  pub cut-stretch :
      (answer_to 4 (replicate 24 0) ≡ cut) × (answer_to 4 (replicate 25 0) ≡ says ("refused 1 8 0" ∷ []))

-- kinds 5, 6, 7 and 10
pub record OfWriting : Type 0 where
  -- the layouts differ
  pub plain :
      (answer_to 5 (le4 24 ++ reported) ≡ says ("packet 80cf0005000000010100000300000007000a000e40024002" ∷ []))
      × (answer_to 5 (le4 23 ++ reported) ≡ says ("refused 11 24 23" ∷ []))
  pub careful :
      (answer_to 6 (le4 28 ++ reported) ≡ says ("packet 80cf0006000000010100000400000007000a000e4002400200000000" ∷ []))
      × (answer_to 6 (le4 27 ++ reported) ≡ says ("refused 11 28 27" ∷ []))
  -- begin off the grid, plainly and carefully; moved up to it, carefully
  pub off-the-grid :
      (answer_to 5 (le4 24 ++ (header 0 ++ report 1 5 20 2 (16385 ∷ [])))
      ≡ says ("packet 80cf00050000000101020003000000070005001440010000" ∷ []))
      × (answer_to 6 (le4 24 ++ (header 0 ++ report 1 5 20 2 (16385 ∷ []))) ≡ says ("refused 15 0 0" ∷ []))
      × (answer_to 6 (le4 24 ++ (header 0 ++ report 1 8 20 2 (16385 ∷ [])))
      ≡ says ("packet 80cf00050000000101020003000000070008001440010000" ∷ []))
  -- a run of no length in the first of two records, and in the second
  pub lost-run :
      (answer_to 5 (le4 99 ++ (header 0 ++ report 1 10 14 0 (16386 ∷ 16384 ∷ []))) ≡ says ("refused 12 1 0" ∷ []))
      × (answer_to 6 (le4 99 ++ (reported ++ report 2 10 14 0 (16384 ∷ []))) ≡ says ("refused 12 2 0" ∷ []))
      × (answer_to 5 (le4 0 ++ (reported ++ report 2 10 14 0 (16384 ∷ []))) ≡ says ("refused 12 2 0" ∷ []))
  pub a_word :
      (answer_to 7 (makes 2 2 2) ≡ says ("word 4002" ∷ [])) × (answer_to 7 (makes 0 9 8) ≡ says ("word 0000" ∷ []))
      × (answer_to 7 (makes 1 3 2) ≡ says ("word 0003" ∷ [])) × (answer_to 7 (makes 3 5 9) ≡ says ("word 8005" ∷ []))
  pub no_word :
      (answer_to 7 (makes 2 2 1) ≡ says ("refused 11 2 1" ∷ []))
      × (answer_to 7 (makes 2 16384 2) ≡ says ("refused 13 16384 0" ∷ []))
      × (answer_to 7 (makes 2 0 2) ≡ says ("refused 13 0 0" ∷ []))
      × (answer_to 7 (makes 2 0 1) ≡ says ("refused 13 0 0" ∷ []))
  -- the next longer run, and the 0 of the other kinds
  pub near-a-lost-run :
      (answer_to 7 (makes 2 1 2) ≡ says ("word 4001" ∷ [])) × (answer_to 7 (makes 1 0 2) ≡ says ("word 0000" ∷ []))
      × (answer_to 7 (makes 3 0 2) ≡ says ("word 8000" ∷ []))
  pub marks :
      (answer_to 10 (le4 1 ++ replicate 15 1) ≡ says ("words 16399" ∷ []))
      × (answer_to 10 (le4 0 ++ replicate 15 1) ≡ says ("refused 11 1 0" ∷ []))
      × (answer_to 10 (le4 1 ++ (2 ∷ [])) ≡ says ("refused 17 0 0" ∷ []))
  pub cut-writing :
      (answer_to 5 (0 ∷ 0 ∷ 0 ∷ []) ≡ cut) × (answer_to 5 (le4 9) ≡ says ("refused 12 0 0" ∷ []))
      × (answer_to 6 (0 ∷ 0 ∷ 0 ∷ []) ≡ cut) × (answer_to 6 (le4 9) ≡ says ("refused 12 0 0" ∷ []))
  -- eight bytes, ten, and a kind of word over 3
  pub cut_word :
      (answer_to 7 (2 ∷ 2 ∷ 0 ∷ 0 ∷ 0 ∷ 2 ∷ 0 ∷ 0 ∷ []) ≡ cut) × (answer_to 7 (makes 2 2 2 ++ (0 ∷ [])) ≡ cut)
      × (answer_to 7 (makes 4 2 2) ≡ cut)
  pub cut-marks : (answer_to 10 (0 ∷ 0 ∷ 0 ∷ []) ≡ cut) × (answer_to 10 (le4 0) ≡ says ("words" ∷ []))

-- kinds that are not served
pub record NotServed : Type 0 where
  pub others :
      (answer_to 0 packet4 ≡ cut) × (answer_to 16 (lists 0 0 1 4 packet4) ≡ cut)
      × (answer_to 15 (lists 0 0 1 4 packet4) ≡ cut)
