-- The text that is printed (RULES, "Text through a lent buffer").
--     TextReachesOut     whatever buffer a text goes through, what was written out on the way and what waits then are,
--                        together, what waited before and the text
--     TextIsHeld         a buffer that has room for the text holds it, behind what waited; nothing else has changed
--     TextEndsAt         where the place stands then
--     DecimalReads       a number's digits have its value, are digits, and begin with a zero for 0 alone
-- Nothing is asked of a call but its contract, `Added`: so of every function of print, lines, dump and probe. With
-- `dump`'s, that adds `dump_text` of the packet, nothing of what `xrdump` prints is left open but that what is written
-- out arrives.
use Rattle.std.specs.Prelude.{ℕ, ◌+◌, ◌*◌, ◌-◌, ◌%◌, ◌≤◌, ◌<◌, ◌≡◌, List, [], ◌∷◌, ◌++◌, length, take, drop, get_or}
use Rattle.def_text.specs.Buffer.{sent_after, Added}
use Rattle.def_text.specs.Numerals.{decimal_of}

abbrev pub TextReachesOut : Type 0
TextReachesOut =
    (l l' text : List ℕ) (at at' : ℕ) → 0 < length l → at ≤ length l → Added l at text l' at'
    → (sent_after l at text ++ take at' l' ≡ take at l ++ text) × (at' ≤ length l') × (length l' ≡ length l)

pub record Held (l : List ℕ) (at : ℕ) (text l' : List ℕ) (at' : ℕ) : Type 0 where
  pub waits : at' ≡ at + length text
  pub holds : take at' l' ≡ take at l ++ text
  pub behind : drop at' l' ≡ drop at' l
  pub sent : sent_after l at text ≡ []

abbrev pub TextIsHeld : Type 0
TextIsHeld =
    (l l' text : List ℕ) (at at' : ℕ) → at + length text ≤ length l → Added l at text l' at' → Held l at text l' at'

-- a text that is not empty: after the buffer's last byte the place starts anew
abbrev pub TextEndsAt : Type 0
TextEndsAt =
    (l l' text : List ℕ) (at at' : ℕ) → 0 < length l → at ≤ length l → 0 < length text → Added l at text l' at'
    → at' ≡ (at + length text - 1) % length l + 1

-- digits as a person reads them: each one is ten times what stands before it, and itself
abbrev pub read_on : ℕ → List ℕ → ℕ
read_on v [] = v
read_on v (d ∷ digits) = read_on (v * 10 + (d - 48)) digits

pub record Decimal (n : ℕ) (digits : List ℕ) : Type 0 where
  pub value : read_on 0 digits ≡ n
  -- each is one of the characters 0 to 9
  pub each : (i : ℕ) → i < length digits → (48 ≤ get_or digits i 0) × (get_or digits i 0 ≤ 57)
  -- there is one at least, and a number that is not 0 does not begin with the character 0
  pub some : 0 < length digits
  pub leading : 0 < n → get_or digits 0 0 ≡ 48 → ⊥

-- every number of 64 bits
abbrev pub DecimalReads : Type 0
DecimalReads = (n : ℕ) → n < 18446744073709551616 → Decimal n (decimal_of n)
