-- Facts of def_text: text through a lent buffer, and numbers as text (RULES, "Text through a lent buffer").
--     text_of     lines, as a person reads them
use Rattle.std.specs.Prelude.{ℕ, ◌≡◌, List, [], ◌∷◌, ◌++◌}
use Prim.Native.String.{String}
use Rattle.def_text.specs.Buffer.{waits_after, held_after, sent_after, Added}
use Rattle.def_text.specs.Numerals.{ascii, glyph, decimal_of, hex_of, hexes_of, spaced, spaced_all, labelled, line_end}
use Rattle.def_text.specs.Numerals.{two_in_turn, three_in_turn}

abbrev pub text_of : List String → List ℕ
text_of [] = []
text_of (line ∷ more) = ascii line ++ (10 ∷ text_of more)

-- a buffer of four bytes, and a text of one
abbrev pub four_bytes : List ℕ
four_bytes = 1 ∷ 2 ∷ 3 ∷ 4 ∷ []

abbrev pub one_byte : List ℕ
one_byte = 9 ∷ []

pub record ThroughABuffer : Type 0 where
  -- into room, and to the last place: nothing is written out yet
  pub into-room :
      (waits_after 4 1 one_byte ≡ 2) × (held_after four_bytes 1 one_byte ≡ 1 ∷ 9 ∷ 3 ∷ 4 ∷ [])
      × (sent_after four_bytes 1 one_byte ≡ [])
  pub last-place :
      (waits_after 4 3 one_byte ≡ 4) × (held_after four_bytes 3 one_byte ≡ 1 ∷ 2 ∷ 3 ∷ 9 ∷ [])
      × (sent_after four_bytes 3 one_byte ≡ [])
  -- a full buffer is written out, and the byte goes to its front; a place past the end is full too
  pub where-full :
      (waits_after 4 4 one_byte ≡ 1) × (held_after four_bytes 4 one_byte ≡ 9 ∷ 2 ∷ 3 ∷ 4 ∷ [])
      × (sent_after four_bytes 4 one_byte ≡ four_bytes)
  pub past_the_end :
      (waits_after 4 7 one_byte ≡ 1) × (held_after four_bytes 7 one_byte ≡ 9 ∷ 2 ∷ 3 ∷ 4 ∷ [])
      × (sent_after four_bytes 7 one_byte ≡ four_bytes)
  -- no text changes nothing, wherever the place is
  pub no_text :
      (waits_after 4 2 [] ≡ 2) × (waits_after 4 7 [] ≡ 7) × (held_after four_bytes 2 [] ≡ four_bytes)
      × (sent_after four_bytes 4 [] ≡ [])
  -- a buffer of no bytes keeps none
  pub no_bytes :
      (waits_after 0 0 one_byte ≡ 0) × (waits_after 0 5 (8 ∷ 9 ∷ []) ≡ 0) × (held_after [] 0 one_byte ≡ [])
      × (sent_after [] 0 one_byte ≡ [])
  -- a text longer than the buffer, from place 2 on
  pub more-than-once :
      (waits_after 4 2 (11 ∷ 12 ∷ 13 ∷ 14 ∷ 15 ∷ 16 ∷ 17 ∷ []) ≡ 1)
      × (held_after four_bytes 2 (11 ∷ 12 ∷ 13 ∷ 14 ∷ 15 ∷ 16 ∷ 17 ∷ []) ≡ 17 ∷ 14 ∷ 15 ∷ 16 ∷ [])
      × (sent_after four_bytes 2 (11 ∷ 12 ∷ 13 ∷ 14 ∷ 15 ∷ 16 ∷ 17 ∷ [])
      ≡ 1 ∷ 2 ∷ 11 ∷ 12 ∷ 13 ∷ 14 ∷ 15 ∷ 16 ∷ [])
  -- both at once, as a call promises them
  pub a_call : Added four_bytes 3 (8 ∷ 9 ∷ []) (9 ∷ 2 ∷ 3 ∷ 8 ∷ []) 1

pub record NumbersAsText : Type 0 where
  pub characters : ascii "az 09\n" ≡ 97 ∷ 122 ∷ 32 ∷ 48 ∷ 57 ∷ 10 ∷ []
  pub no-characters : ascii "" ≡ []
  pub digits : (glyph 0 ≡ 48) × (glyph 9 ≡ 57) × (glyph 10 ≡ 97) × (glyph 15 ≡ 102)
  -- no zero in front, but for the number 0 itself
  pub one-digit : (decimal_of 0 ≡ ascii "0") × (decimal_of 1 ≡ ascii "1") × (decimal_of 9 ≡ ascii "9")
  pub two_digits : (decimal_of 10 ≡ ascii "10") × (decimal_of 42 ≡ ascii "42") × (decimal_of 99 ≡ ascii "99")
  pub three-digits : (decimal_of 100 ≡ ascii "100") × (decimal_of 907 ≡ ascii "907")
  -- the largest of 16, 32 and 64 bits; the least of 20 digits, and the largest of 19
  pub largest :
      (decimal_of 65535 ≡ ascii "65535") × (decimal_of 4294967295 ≡ ascii "4294967295")
      × (decimal_of 18446744073709551615 ≡ ascii "18446744073709551615")
  pub twenty :
      (decimal_of 10000000000000000000 ≡ ascii "10000000000000000000")
      × (decimal_of 9999999999999999999 ≡ ascii "9999999999999999999")
  pub hex :
      (hex_of 0 ≡ ascii "00") × (hex_of 15 ≡ ascii "0f") × (hex_of 16 ≡ ascii "10") × (hex_of 0xa9 ≡ ascii "a9")
      × (hex_of 255 ≡ ascii "ff")
  pub hexes : (hexes_of [] ≡ []) × (hexes_of (128 ∷ 7 ∷ 255 ∷ []) ≡ ascii "8007ff")
  pub spaces :
      (spaced 0 ≡ ascii " 0") × (spaced_all [] ≡ []) × (spaced_all (5 ∷ []) ≡ ascii " 5")
      × (spaced_all (10 ∷ 0 ∷ 65535 ∷ []) ≡ ascii " 10 0 65535")
  pub labels : (labelled (ascii "block") 3 ≡ ascii "block 3") × (line_end ≡ ascii "\n")
  -- item by item, as far as the shortest goes
  pub by-twos :
      (two_in_turn (1 ∷ 2 ∷ []) (3 ∷ 4 ∷ []) ≡ 1 ∷ 3 ∷ 2 ∷ 4 ∷ []) × (two_in_turn [] (3 ∷ []) ≡ [])
      × (two_in_turn (1 ∷ 2 ∷ []) (3 ∷ []) ≡ 1 ∷ 3 ∷ [])
  pub by-threes :
      (three_in_turn (1 ∷ 2 ∷ []) (3 ∷ 4 ∷ []) (5 ∷ 6 ∷ []) ≡ 1 ∷ 3 ∷ 5 ∷ 2 ∷ 4 ∷ 6 ∷ [])
      × (three_in_turn [] (3 ∷ []) (5 ∷ []) ≡ []) × (three_in_turn (1 ∷ 2 ∷ []) (3 ∷ []) (5 ∷ 6 ∷ []) ≡ 1 ∷ 3 ∷ 5 ∷ [])
      × (three_in_turn (1 ∷ 2 ∷ []) (3 ∷ 4 ∷ []) (5 ∷ []) ≡ 1 ∷ 3 ∷ 5 ∷ [])
