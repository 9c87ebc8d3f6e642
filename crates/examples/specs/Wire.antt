-- Facts of def_wire's Bytes and Packet: big-endian numbers, the header and refusals 1 to 5.
-- RULES, "Packet and blocks" and "Refusal numbers".
use Rattle.std.specs.Prelude.{ℕ, ◌≡◌, true, false, List, [], ◌∷◌, ◌++◌, Ok, Err}
use Rattle.def_refusals.specs.declared.Refusal.TheVariants.{TooShort, WrongVersion, WrongPacketType, WrongLength}
use Rattle.def_refusals.specs.declared.Refusal.TheVariants.{BadPadding}
use Rattle.def_wire.specs.declared.Reading.TheVariants.{Standard, Crate}
use Rattle.def_wire.specs.Bytes.{byte_at, be16, be32, be64, pair_up, words16, words32, two, four, eight}
use Rattle.def_wire.specs.Packet.{version_of, is_padded, announced_of, padding_of, is_bad_padding, ssrc_of, header_of}
use Rattle.examples.specs.Rows.{rows, packet, padded}

abbrev pub eight-bytes : List ℕ
eight-bytes = 0x12 ∷ 0x34 ∷ 0x56 ∷ 0x78 ∷ 0x9a ∷ 0xbc ∷ 0xde ∷ 0xf0 ∷ []

pub record Bytes : Type 0 where
  -- a byte past the end counts as 0
  pub byte : (byte_at eight-bytes 0 ≡ 0x12) × (byte_at eight-bytes 7 ≡ 0xf0) × (byte_at eight-bytes 8 ≡ 0)
  -- the first byte is worth most; at an index that is not 0; reaching past the end
  pub of_two : (be16 eight-bytes 0 ≡ 0x1234) × (be16 eight-bytes 3 ≡ 0x789a) × (be16 eight-bytes 7 ≡ 0xf000)
  pub of_four :
      (be32 eight-bytes 0 ≡ 0x12345678) × (be32 eight-bytes 3 ≡ 0x789abcde) × (be32 eight-bytes 6 ≡ 0xdef00000)
  pub of-eight : (be64 eight-bytes 0 ≡ 0x123456789abcdef0) × (be64 eight-bytes 1 ≡ 0x3456789abcdef000)
  -- whole words only, in order
  pub pairs : (pair_up 10 (1 ∷ 2 ∷ 3 ∷ 4 ∷ 5 ∷ []) ≡ 12 ∷ 34 ∷ []) × (pair_up 10 (1 ∷ []) ≡ []) × (pair_up 10 [] ≡ [])
  pub of-words16 : words16 (0x12 ∷ 0x34 ∷ 0x56 ∷ 0x78 ∷ 0x9a ∷ []) ≡ 0x1234 ∷ 0x5678 ∷ []
  pub of-words32 :
      (words32 eight-bytes ≡ 0x12345678 ∷ 0x9abcdef0 ∷ [])
      × (words32 (1 ∷ 2 ∷ 3 ∷ 4 ∷ 5 ∷ 6 ∷ 7 ∷ []) ≡ 0x01020304 ∷ [])
  -- a number's bytes: the most significant first, and no more than asked for
  pub two_bytes : (two 0x1234 ≡ 0x12 ∷ 0x34 ∷ []) × (two 0x51234 ≡ 0x12 ∷ 0x34 ∷ []) × (two 65535 ≡ 255 ∷ 255 ∷ [])
  pub four_bytes : four 0x12345678 ≡ 0x12 ∷ 0x34 ∷ 0x56 ∷ 0x78 ∷ []
  pub all-eight : eight 0x123456789abcdef0 ≡ eight-bytes

-- the first eight bytes
pub record HeaderParts : Type 0 where
  -- two bits of version: 1 up to 127, 2 from 128 to 191, 3 from 192 on
  pub version :
      (version_of (0x7f ∷ []) ≡ 1) × (version_of (0x80 ∷ []) ≡ 2) × (version_of (0xbf ∷ []) ≡ 2)
      × (version_of (0xc0 ∷ []) ≡ 3)
  -- P is worth 32; the five bits below it are not looked at
  pub bit-p :
      (is_padded (0x9f ∷ []) ≡ false) × (is_padded (0xa0 ∷ []) ≡ true) × (is_padded (0xbf ∷ []) ≡ true)
      × (is_padded (0xc0 ∷ []) ≡ false)
  -- (field + 1) · 4, of bytes 2 and 3
  pub announced :
      (announced_of (9 ∷ 9 ∷ 0 ∷ 0 ∷ 7 ∷ []) ≡ 4) × (announced_of (9 ∷ 9 ∷ 1 ∷ 2 ∷ 7 ∷ []) ≡ 1036)
      × (announced_of (9 ∷ 9 ∷ 255 ∷ 255 ∷ []) ≡ 262144)
  pub sender : ssrc_of (rows (0x80cf0002 ∷ 0x01020304 ∷ 0x05060708 ∷ [])) ≡ 0x01020304
  pub last_byte : (padding_of (7 ∷ 8 ∷ 9 ∷ []) ≡ 9) × (padding_of (7 ∷ []) ≡ 7)
  -- 0 and what is no multiple of 4
  pub bad-count :
      (is_bad_padding 0 16 ≡ true) × (is_bad_padding 1 16 ≡ true) × (is_bad_padding 2 16 ≡ true)
      × (is_bad_padding 3 16 ≡ true)
      × (is_bad_padding 6 16 ≡ true)
  -- the length less 8, and one word over
  pub at_most :
      (is_bad_padding 4 16 ≡ false) × (is_bad_padding 8 16 ≡ false) × (is_bad_padding 12 16 ≡ true)
      × (is_bad_padding 4 8 ≡ true) × (is_bad_padding 252 260 ≡ false) × (is_bad_padding 252 256 ≡ true)

-- 1 to 5, in their order
pub record Header : Type 0 where
  -- 1: nothing at all, and one byte less than the least
  pub too_short :
      (header_of Standard [] ≡ Err (TooShort 8 0)) × (header_of Crate [] ≡ Err (TooShort 12 0))
      × (header_of Standard (0x80 ∷ 0xcf ∷ 0 ∷ 1 ∷ 0 ∷ 0 ∷ 0 ∷ []) ≡ Err (TooShort 8 7))
      × (header_of Crate (packet [] ++ (0 ∷ 0 ∷ 0 ∷ [])) ≡ Err (TooShort 12 11))
  -- the least itself: 8 bytes for the standard, which are 1 for the crate, whose least is 12
  pub the-least :
      (header_of Standard (packet []) ≡ Ok 8) × (header_of Crate (packet []) ≡ Err (TooShort 12 8))
      × (header_of Crate (packet (0 ∷ [])) ≡ Ok 12)
  -- 8 to 11 bytes: the standard goes on to 2, 3, 4, 5, and the crate says 1
  pub eight-to-eleven :
      (header_of Standard (rows (0x40cf0001 ∷ 1 ∷ [])) ≡ Err WrongVersion)
      × (header_of Standard (packet [] ++ (0 ∷ 0 ∷ 0 ∷ [])) ≡ Err (WrongLength 8 11))
      × (header_of Standard (rows (0xa0cf0001 ∷ 4 ∷ [])) ≡ Err (BadPadding 4))
      × (header_of Crate (rows (0x40ce0009 ∷ 1 ∷ [])) ≡ Err (TooShort 12 8))
      × (header_of Crate (rows (0xa0cf0001 ∷ 4 ∷ [])) ≡ Err (TooShort 12 8))
  -- 1 before 2
  pub one-first : header_of Standard (0x40 ∷ 0xce ∷ 0 ∷ []) ≡ Err (TooShort 8 3)
  -- 2: versions 0, 1 and 3, in both readings
  pub wrong-version :
      (header_of Standard (rows (0x00cf0002 ∷ 1 ∷ 0 ∷ [])) ≡ Err WrongVersion)
      × (header_of Standard (rows (0x40cf0002 ∷ 1 ∷ 0 ∷ [])) ≡ Err WrongVersion)
      × (header_of Crate (rows (0xc0cf0002 ∷ 1 ∷ 0 ∷ [])) ≡ Err WrongVersion)
  -- 2 before 3, and before 4
  pub two-first :
      (header_of Standard (rows (0x40ce0002 ∷ 1 ∷ 0 ∷ [])) ≡ Err WrongVersion)
      × (header_of Crate (rows (0x40cf0009 ∷ 1 ∷ 0 ∷ [])) ≡ Err WrongVersion)
  -- 3: 206, 208 and 200, in both readings
  pub wrong_type :
      (header_of Standard (rows (0x80ce0002 ∷ 1 ∷ 0 ∷ [])) ≡ Err WrongPacketType)
      × (header_of Standard (rows (0x80d00002 ∷ 1 ∷ 0 ∷ [])) ≡ Err WrongPacketType)
      × (header_of Crate (rows (0x80c80002 ∷ 1 ∷ 0 ∷ [])) ≡ Err WrongPacketType)
  -- 3 before 4, and before 5
  pub three-first :
      (header_of Standard (rows (0x80ce0009 ∷ 1 ∷ 0 ∷ [])) ≡ Err WrongPacketType)
      × (header_of Crate (rows (0xa0ce0002 ∷ 1 ∷ 0 ∷ [])) ≡ Err WrongPacketType)
  -- 4: a word more and a word less announced, and a byte more than announced
  pub wrong-length :
      (header_of Standard (rows (0x80cf0003 ∷ 1 ∷ 0 ∷ [])) ≡ Err (WrongLength 16 12))
      × (header_of Crate (rows (0x80cf0001 ∷ 1 ∷ 0 ∷ [])) ≡ Err (WrongLength 8 12))
      × (header_of Crate (packet (0 ∷ []) ++ (0 ∷ [])) ≡ Err (WrongLength 12 13))
  -- 4 before 5
  pub four-first :
      (header_of Standard (rows (0xa0cf0003 ∷ 1 ∷ 0 ∷ [])) ≡ Err (WrongLength 16 12))
      × (header_of Crate (rows (0xa0cf0003 ∷ 1 ∷ 0 ∷ [])) ≡ Err (WrongLength 16 12))
  -- 5 in both readings: 0, 1, no multiple of 4, over the length less 8
  pub bad-padding :
      (header_of Standard (padded (0 ∷ 0 ∷ [])) ≡ Err (BadPadding 0))
      × (header_of Crate (padded (0 ∷ 0 ∷ [])) ≡ Err (BadPadding 0))
      × (header_of Standard (padded (1 ∷ 1 ∷ [])) ≡ Err (BadPadding 1))
      × (header_of Crate (padded (1 ∷ 1 ∷ [])) ≡ Err (BadPadding 1))
      × (header_of Standard (padded (1 ∷ [])) ≡ Err (BadPadding 1))
      × (header_of Crate (padded (1 ∷ [])) ≡ Err (BadPadding 1))
      × (header_of Standard (padded (0 ∷ 6 ∷ [])) ≡ Err (BadPadding 6))
      × (header_of Crate (padded (0 ∷ 12 ∷ [])) ≡ Err (BadPadding 12))
  -- blocks end N bytes earlier for the standard alone; N may be all that stands behind the first 8 bytes
  pub stop :
      (header_of Standard (padded (0 ∷ 4 ∷ [])) ≡ Ok 12) × (header_of Crate (padded (0 ∷ 4 ∷ [])) ≡ Ok 16)
      × (header_of Standard (padded (0 ∷ 8 ∷ [])) ≡ Ok 8) × (header_of Crate (padded (0 ∷ 8 ∷ [])) ≡ Ok 16)
  -- without P the last byte is no padding count
  pub not-padded :
      (header_of Standard (packet (0 ∷ 4 ∷ [])) ≡ Ok 16) × (header_of Standard (packet (0 ∷ 3 ∷ [])) ≡ Ok 16)
      × (header_of Crate (packet (0 ∷ 3 ∷ [])) ≡ Ok 16)
  -- the unused bits are not looked at
  pub unused-bits :
      (header_of Standard (rows (0x9fcf0001 ∷ 1 ∷ [])) ≡ Ok 8)
      × (header_of Crate (rows (0x9fcf0002 ∷ 1 ∷ 3 ∷ [])) ≡ Ok 12)
