-- Facts of def_jobs' Layout: the packet of a job list, plain and careful. RULES, "Job lists and writing".
use Rattle.std.specs.Prelude.{ℕ, ◌≡◌, true, false, List, [], ◌∷◌, ◌++◌, map, replicate}
use Rattle.def_wire.specs.Bytes.{two}
use Rattle.def_jobs.specs.declared.Layout.TheVariants.{Plain, Careful}
use Rattle.def_jobs.specs.Layout.{bytes_of, is_odd, last_word, zeros_behind, head, with_fields, words_bytes, block_bytes}
use Rattle.def_jobs.specs.Layout.{blocks_bytes, padding_bytes, first_byte, packet_around, layout_of}
use Rattle.def_jobs.specs.Jobs.{Job}
use Rattle.examples.specs.Rows.{fields, rows, packet, padded, le2, le4, le2s, le4s, body}
use Rattle.examples.specs.Jobs.{of-kind}

-- word lists: none, one, two with and without a last 0, and the even ones whose last word shows nothing
abbrev pub word-lists : List (List ℕ)
word-lists =
    [] ∷ (7 ∷ []) ∷ (0 ∷ []) ∷ (7 ∷ 8 ∷ []) ∷ (7 ∷ 0 ∷ []) ∷ (0 ∷ 7 ∷ []) ∷ (7 ∷ 8 ∷ 9 ∷ []) ∷ (7 ∷ 3 ∷ [])
    ∷ (7 ∷ 16384 ∷ []) ∷ (7 ∷ 32768 ∷ []) ∷ (0 ∷ 0 ∷ []) ∷ (7 ∷ 8 ∷ 9 ∷ 10 ∷ []) ∷ []

pub record Zeros : Type 0 where
  pub odd : map is_odd ([] ∷ (7 ∷ []) ∷ (7 ∷ 8 ∷ []) ∷ (7 ∷ 8 ∷ 9 ∷ []) ∷ []) ≡ false ∷ true ∷ false ∷ true ∷ []
  pub last : (last_word (7 ∷ 8 ∷ 9 ∷ []) ≡ 9) × (last_word (7 ∷ []) ≡ 7) × (last_word [] ≡ 0)
  -- plain: an odd count gains one
  pub plain :
      map (zeros_behind Plain) word-lists ≡ 0 ∷ 1 ∷ 1 ∷ 0 ∷ 0 ∷ 0 ∷ 1 ∷ 0 ∷ 0 ∷ 0 ∷ 0 ∷ 0 ∷ []
  -- careful: an even, non-empty count whose last word is not 0 gains two, also where that word shows nothing
  pub careful :
      map (zeros_behind Careful) word-lists ≡ 0 ∷ 1 ∷ 1 ∷ 2 ∷ 0 ∷ 2 ∷ 1 ∷ 2 ∷ 2 ∷ 2 ∷ 0 ∷ 2 ∷ []

pub record Pieces : Type 0 where
  pub each_number : (bytes_of two (0x1234 ∷ 0x5678 ∷ []) ≡ 0x12 ∷ 0x34 ∷ 0x56 ∷ 0x78 ∷ []) × (bytes_of two [] ≡ [])
  -- type, specific byte, the length in words less one: 16 bytes behind the header are 4 words
  pub four_bytes :
      (head 9 8 16 ≡ 9 ∷ 8 ∷ 0 ∷ 4 ∷ []) × (head 9 8 0 ≡ 9 ∷ 8 ∷ 0 ∷ 0 ∷ []) × (head 9 8 4096 ≡ 9 ∷ 8 ∷ 4 ∷ 0 ∷ [])
  -- T in the specific byte; SSRC, begin, end; the rest; L counts all of it
  pub fields-and-rest :
      with_fields 9 (fields 0x01020304 0x1112 0x1314 15) (5 ∷ 6 ∷ 7 ∷ 8 ∷ [])
      ≡ rows (0x090f0003 ∷ 0x01020304 ∷ 0x11121314 ∷ 0x05060708 ∷ [])
  pub words :
      (words_bytes Plain (0x1234 ∷ []) ≡ 0x12 ∷ 0x34 ∷ 0 ∷ 0 ∷ [])
      × (words_bytes Plain (0x1234 ∷ 0x5678 ∷ []) ≡ rows (0x12345678 ∷ []))
      × (words_bytes Careful (0x1234 ∷ []) ≡ 0x12 ∷ 0x34 ∷ 0 ∷ 0 ∷ [])
      × (words_bytes Careful (0x1234 ∷ 0x5678 ∷ []) ≡ rows (0x12345678 ∷ 0 ∷ [])) × (words_bytes Careful [] ≡ [])
  -- zeros, then N, itself counted
  pub padding : (padding_bytes 0 ≡ []) × (padding_bytes 4 ≡ 0 ∷ 0 ∷ 0 ∷ 4 ∷ []) × (padding_bytes 8 ≡ rows (0 ∷ 8 ∷ []))
  -- version 2, and P where N > 0; the unused bits are 0
  pub first_byte_lem : map first_byte (0 ∷ 4 ∷ 252 ∷ []) ≡ 0x80 ∷ 0xa0 ∷ 0xa0 ∷ []

pub record Blocks : Type 0 where
  -- kinds 1 and 2 as types 1 and 2
  pub loss :
      (block_bytes Plain (of-kind 1 (body 10 14 3 (le2s (16386 ∷ 16387 ∷ []))))
      ≡ rows (0x01030003 ∷ 7 ∷ 0x000a000e ∷ 0x40024003 ∷ []))
      × (block_bytes Careful (of-kind 1 (body 10 14 3 (le2s (16386 ∷ 16387 ∷ []))))
      ≡ rows (0x01030004 ∷ 7 ∷ 0x000a000e ∷ 0x40024003 ∷ 0 ∷ []))
      × (block_bytes Plain (of-kind 1 (body 10 14 3 (le2s (16386 ∷ []))))
      ≡ rows (0x01030003 ∷ 7 ∷ 0x000a000e ∷ 0x40020000 ∷ []))
      × (block_bytes Careful (of-kind 1 (body 10 14 3 [])) ≡ rows (0x01030002 ∷ 7 ∷ 0x000a000e ∷ []))
  pub duplicate :
      block_bytes Plain (of-kind 2 (body 10 14 15 (le2s (16386 ∷ []))))
      ≡ rows (0x020f0003 ∷ 7 ∷ 0x000a000e ∷ 0x40020000 ∷ [])
  -- kind 3, the same in both layouts
  pub receipt-times :
      (block_bytes Plain (of-kind 3 (body 5 9 1 (le4s (100 ∷ 0x01020304 ∷ []))))
      ≡ rows (0x03010004 ∷ 7 ∷ 0x00050009 ∷ 100 ∷ 0x01020304 ∷ []))
      × (block_bytes Careful (of-kind 3 (body 5 9 1 (le4s (100 ∷ 0x01020304 ∷ []))))
      ≡ rows (0x03010004 ∷ 7 ∷ 0x00050009 ∷ 100 ∷ 0x01020304 ∷ []))
  -- kinds 4 and 5: the specific byte is 0; kind 4's eight bytes are one little-endian number
  pub time :
      (block_bytes Plain (of-kind 4 (8 ∷ 7 ∷ 6 ∷ 5 ∷ 4 ∷ 3 ∷ 2 ∷ 1 ∷ []))
      ≡ rows (0x04000002 ∷ 0x01020304 ∷ 0x05060708 ∷ []))
      × (block_bytes Careful (of-kind 4 (8 ∷ 7 ∷ 6 ∷ 5 ∷ 4 ∷ 3 ∷ 2 ∷ 1 ∷ []))
      ≡ rows (0x04000002 ∷ 0x01020304 ∷ 0x05060708 ∷ []))
  pub entries :
      (block_bytes Plain (of-kind 5 (le4s (1 ∷ 2 ∷ 0x01020304 ∷ []))) ≡ rows (0x05000003 ∷ 1 ∷ 2 ∷ 0x01020304 ∷ []))
      × (block_bytes Careful (of-kind 5 []) ≡ rows (0x05000000 ∷ []))
  pub other : block_bytes Plain (of-kind 7 (1 ∷ 2 ∷ 3 ∷ 4 ∷ [])) ≡ []
  -- one behind the other
  pub all :
      (blocks_bytes Plain (of-kind 5 [] ∷ of-kind 4 (replicate 8 1) ∷ [])
      ≡ rows (0x05000000 ∷ 0x04000002 ∷ 0x01010101 ∷ 0x01010101 ∷ []))
      × (blocks_bytes Careful [] ≡ [])
  pub all-careful :
      blocks_bytes Careful
      (of-kind 1 (body 10 14 0 (le2s (1 ∷ 2 ∷ []))) ∷ of-kind 1 (body 10 14 0 (le2s (3 ∷ []))) ∷ [])
      ≡ rows (0x01000004 ∷ 7 ∷ 0x000a000e ∷ 0x00010002 ∷ 0 ∷ 0x01000003 ∷ 7 ∷ 0x000a000e ∷ 0x00030000 ∷ [])

abbrev pub sender : ℕ → Job
sender n = of-kind 0 (le4 1 ++ le2 n)

pub record Packets : Type 0 where
  -- no blocks: 8 bytes, whose length field is 1
  pub empty : (layout_of Plain (sender 0 ∷ []) ≡ packet []) × (layout_of Careful (sender 0 ∷ []) ≡ packet [])
  -- the sender's SSRC is big-endian
  pub sender-first :
      layout_of Plain (of-kind 0 (le4 0x01020304 ++ le2 0) ∷ []) ≡ rows (0x80cf0001 ∷ 0x01020304 ∷ [])
  -- N bytes behind the blocks, counted in the length, and P
  pub with-padding :
      (layout_of Plain (sender 4 ∷ of-kind 5 [] ∷ []) ≡ padded (0x05000000 ∷ 4 ∷ []))
      × (layout_of Careful (sender 8 ∷ []) ≡ padded (0 ∷ 8 ∷ []))
  pub around :
      (packet_around (sender 0) (5 ∷ 0 ∷ 0 ∷ 0 ∷ []) ≡ packet (0x05000000 ∷ []))
      × (packet_around (sender 4) (5 ∷ 0 ∷ 0 ∷ 0 ∷ []) ≡ padded (0x05000000 ∷ 4 ∷ []))
  -- the length field's two bytes: 1,024 bytes of blocks make 258 words
  pub length-field : packet_around (sender 0) (replicate 1024 0) ≡ packet (replicate 256 0)
  pub layouts :
      (layout_of Plain (sender 0 ∷ of-kind 1 (body 10 14 0 (le2s (1 ∷ 2 ∷ []))) ∷ [])
      ≡ packet (0x01000003 ∷ 7 ∷ 0x000a000e ∷ 0x00010002 ∷ []))
      × (layout_of Careful (sender 0 ∷ of-kind 1 (body 10 14 0 (le2s (1 ∷ 2 ∷ []))) ∷ [])
      ≡ packet (0x01000004 ∷ 7 ∷ 0x000a000e ∷ 0x00010002 ∷ 0 ∷ []))
  pub nothing : layout_of Plain [] ≡ []
