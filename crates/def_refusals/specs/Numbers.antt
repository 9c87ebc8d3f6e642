-- RULES' number and two values for each refusal (RULES, "Refusal numbers").
use Rattle.std.specs.Prelude.{ℕ}
use Rattle.def_refusals.specs.declared.Refusal.{Refusal}
use Rattle.def_refusals.specs.declared.Refusal.TheVariants.{TooShort, WrongVersion, WrongPacketType}
use Rattle.def_refusals.specs.declared.Refusal.TheVariants.{WrongLength, BadPadding, BlockTooLong, NoBlock}
use Rattle.def_refusals.specs.declared.Refusal.TheVariants.{OtherType, BadBlockLength, NoFields, NoPlace}
use Rattle.def_refusals.specs.declared.Refusal.TheVariants.{NoRoom, ValueTooLarge, BadRecord, TooMany}
use Rattle.def_refusals.specs.declared.Refusal.TheVariants.{Misleads, BadMark, Padded, PastEnd}
use Rattle.def_refusals.specs.declared.Numbered.{Numbered}

-- a number and two values
abbrev pub row : ℕ → ℕ → ℕ → Numbered
row n a b = record { number = n; first = a; second = b }

unfoldable pub numbered : Refusal → Numbered
numbered (TooShort least actual) = row 1 least actual
numbered WrongVersion = row 2 0 0
numbered WrongPacketType = row 3 0 0
numbered (WrongLength announced actual) = row 4 announced actual
numbered (BadPadding n) = row 5 n 0
numbered (BlockTooLong length left) = row 6 length left
numbered (NoBlock count) = row 9 count 0
numbered (OtherType type) = row 10 type 0
numbered (BadBlockLength expected actual) = row 7 expected actual
numbered (NoFields left) = row 8 12 left
numbered NoPlace = row 16 0 0
numbered (NoRoom needed lent) = row 11 needed lent
numbered (ValueTooLarge value) = row 13 value 0
numbered (BadRecord index) = row 12 index 0
numbered (TooMany found limit) = row 14 found limit
numbered (Misleads index) = row 15 index 0
numbered (BadMark index) = row 17 index 0
numbered Padded = row 18 0 0
numbered (PastEnd announced given) = row 19 announced given
