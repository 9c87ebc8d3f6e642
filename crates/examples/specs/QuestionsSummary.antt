-- Facts of def_questions: the question for a summary, of a packet and an index, in the order 1 to 6, 9, 10, 7.
-- RULES, "Standard reading" and "Refusal numbers".
use Rattle.std.specs.Prelude.{ℕ, ◌≡◌, List, [], ◌∷◌, ◌++◌, replicate, Ok, Err, None}
use Rattle.def_refusals.specs.declared.Refusal.TheVariants.{TooShort, WrongVersion, WrongPacketType, WrongLength}
use Rattle.def_refusals.specs.declared.Refusal.TheVariants.{BadPadding, BlockTooLong, NoBlock, OtherType}
use Rattle.def_refusals.specs.declared.Refusal.TheVariants.{BadBlockLength}
use Rattle.def_wire.specs.declared.Reading.TheVariants.{Standard, Crate}
use Rattle.def_wire.specs.declared.HopsOr.TheVariants.{NoHops}
use Rattle.def_questions.specs.Packets.{summary_asked}
use Rattle.examples.specs.Rows.{rows, packet, padded}
use Rattle.examples.specs.WireSummary.{words-with, with-numbers, full, lost, hops}

-- a block of four bytes, a summary, one with 4 bytes too few
abbrev pub three-blocks : List ℕ
three-blocks = packet (0x63000000 ∷ (words-with 232 ++ (0x06000008 ∷ replicate 8 1)))

-- of a packet and an index
pub record Asked : Type 0 where
  pub shows :
      (summary_asked Standard three-blocks 1 ≡ Ok full)
      × (summary_asked Standard (packet (words-with 64 ++ words-with 128)) 1
      ≡ Ok (with-numbers lost None None NoHops))
      × (summary_asked Standard (padded (words-with 16 ++ (4 ∷ []))) 0
      ≡ Ok (with-numbers None None None hops))
  -- 1 to 6, at any index
  pub one-to-six :
      (summary_asked Standard [] 0 ≡ Err (TooShort 8 0))
      × (summary_asked Standard (rows (0x40cf0001 ∷ 1 ∷ [])) 7 ≡ Err WrongVersion)
      × (summary_asked Standard (rows (0x80ce0001 ∷ 1 ∷ [])) 7 ≡ Err WrongPacketType)
      × (summary_asked Standard (rows (0x80cf000b ∷ 1 ∷ [])) 0 ≡ Err (WrongLength 48 8))
      × (summary_asked Standard (padded (words-with 232 ++ (3 ∷ []))) 0 ≡ Err (BadPadding 3))
      × (summary_asked Standard (packet (words-with 232 ++ (0x63000001 ∷ []))) 0 ≡ Err (BlockTooLong 8 4))
  -- 9 with the count, then 10 with the type, then 7
  pub nine-ten-seven :
      (summary_asked Standard three-blocks 3 ≡ Err (NoBlock 3))
      × (summary_asked Standard (packet []) 0 ≡ Err (NoBlock 0))
      × (summary_asked Standard three-blocks 0 ≡ Err (OtherType 99))
      × (summary_asked Standard three-blocks 2 ≡ Err (BadBlockLength 40 36))
  -- the crate: its own 1, 9, then 10 with the type
  pub crate :
      (summary_asked Crate (packet []) 0 ≡ Err (TooShort 12 8))
      × (summary_asked Crate three-blocks 3 ≡ Err (NoBlock 3))
      × (summary_asked Crate three-blocks 0 ≡ Err (OtherType 99))
      × (summary_asked Crate three-blocks 1 ≡ Err (OtherType 6))
      × (summary_asked Crate three-blocks 2 ≡ Err (OtherType 6))
