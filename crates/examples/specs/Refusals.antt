-- Facts of def_refusals: the table's rows, and what a listing call answers and leaves. RULES, "Refusal numbers".
use Rattle.std.specs.Prelude.{ℕ, suc, ◌≡◌, List, [], ◌∷◌, Ok, Err}
use Rattle.def_refusals.specs.declared.Refusal.TheVariants.{TooShort, WrongVersion, WrongPacketType, WrongLength}
use Rattle.def_refusals.specs.declared.Refusal.TheVariants.{BadPadding, BlockTooLong, NoBlock, OtherType}
use Rattle.def_refusals.specs.declared.Refusal.TheVariants.{BadBlockLength, NoFields, NoPlace, NoRoom, ValueTooLarge}
use Rattle.def_refusals.specs.declared.Refusal.TheVariants.{BadRecord, TooMany, Misleads, BadMark, Padded}
use Rattle.def_refusals.specs.declared.Refusal.TheVariants.{PastEnd}
use Rattle.def_refusals.specs.declared.Numbered.{Numbered}
use Rattle.def_refusals.specs.Numbers.{numbered, row}
use Rattle.def_refusals.specs.Answers.{Or, on_shown, on_done, on_fine, then_check, each}
use Rattle.def_refusals.specs.Answers.{answer_of, filled_of, Listed}

-- a number and two values
abbrev pub no : ℕ → ℕ → ℕ → Numbered
no n a b = record { number = n; first = a; second = b }

-- each row of the table: its number, and which of the values stands first
pub record Numbers : Type 0 where
  -- least, actual
  pub row-1 : numbered (TooShort 12 8) ≡ no 1 12 8
  pub row-2 : numbered WrongVersion ≡ no 2 0 0
  pub row-3 : numbered WrongPacketType ≡ no 3 0 0
  -- the announced length, actual
  pub row-4 : numbered (WrongLength 16 20) ≡ no 4 16 20
  pub row-5 : numbered (BadPadding 3) ≡ no 5 3 0
  -- L, what is left for blocks
  pub row-6 : numbered (BlockTooLong 8 4) ≡ no 6 8 4
  pub row-9 : numbered (NoBlock 2) ≡ no 9 2 0
  pub row-10 : numbered (OtherType 4) ≡ no 10 4 0
  -- expected, actual
  pub row-7 : numbered (BadBlockLength 40 28) ≡ no 7 40 28
  -- always 12, left
  pub row-8 : numbered (NoFields 4) ≡ no 8 12 4
  pub row-16 : numbered NoPlace ≡ no 16 0 0
  -- needed, lent
  pub row-11 : numbered (NoRoom 5 3) ≡ no 11 5 3
  pub row-13 : numbered (ValueTooLarge 16384) ≡ no 13 16384 0
  pub row-12 : numbered (BadRecord 6) ≡ no 12 6 0
  -- found, limit
  pub row-14 : numbered (TooMany 32 31) ≡ no 14 32 31
  pub row-15 : numbered (Misleads 7) ≡ no 15 7 0
  pub row-17 : numbered (BadMark 9) ≡ no 17 9 0
  pub row-18 : numbered Padded ≡ no 18 0 0
  -- announced, given in all
  pub row-19 : numbered (PastEnd 8 9) ≡ no 19 8 9
  -- number, first value, second value
  pub in_a_row : row 1 2 3 ≡ no 1 2 3

-- two items, none, and a refusal
abbrev pub two_items : Or (List ℕ)
two_items = Ok (4 ∷ 5 ∷ [])

abbrev pub none : Or (List ℕ)
none = Ok []

abbrev pub turned_down : Or (List ℕ)
turned_down = Err (NoBlock 3)

abbrev pub old : List ℕ
old = 1 ∷ 2 ∷ 3 ∷ []

pub record Answers : Type 0 where
  -- a count, where the room is more, exact, and none for an empty list
  pub enough : (answer_of two_items 3 ≡ Ok 2) × (answer_of two_items 2 ≡ Ok 2) × (answer_of none 0 ≡ Ok 0)
  -- 11 with needed and lent, one less than exact and with no room
  pub short : (answer_of two_items 1 ≡ Err (NoRoom 2 1)) × (answer_of two_items 0 ≡ Err (NoRoom 2 0))
  -- another refusal stands before 11, whatever the room
  pub other-first : (answer_of turned_down 0 ≡ Err (NoBlock 3)) × (answer_of turned_down 9 ≡ Err (NoBlock 3))
  -- the items in front, and the rest of the list as it was
  pub rest-kept : (filled_of two_items 3 old ≡ 4 ∷ 5 ∷ 3 ∷ []) × (filled_of none 3 old ≡ old)
  -- exact room, no rest
  pub exact : filled_of two_items 2 (1 ∷ 2 ∷ []) ≡ 4 ∷ 5 ∷ []
  -- refused: the old contents, where the room is short (its own, or a shorter neighbour's) and for another refusal
  pub left-as-is :
      (filled_of two_items 1 (1 ∷ []) ≡ 1 ∷ []) × (filled_of two_items 1 old ≡ old) × (filled_of turned_down 3 old ≡ old)
  -- the contract of one lent list: its own length is the room
  pub listed : Listed two_items old (Ok 2) (4 ∷ 5 ∷ 3 ∷ []) × Listed two_items (1 ∷ 2 ∷ []) (Ok 2) (4 ∷ 5 ∷ [])
  pub not_listed :
      Listed two_items (1 ∷ []) (Err (NoRoom 2 1)) (1 ∷ []) × Listed turned_down [] (Err (NoBlock 3)) []
  -- and no other answer, nor other contents, satisfies it
  pub no_other : (r : Or ℕ) (out : List ℕ) → Listed two_items old r out → (r ≡ Ok 2) × (out ≡ 4 ∷ 5 ∷ 3 ∷ [])

-- a question after another: the first refusal is the answer
pub record OneAfterAnother : Type 0 where
  pub shown-then :
      (on_shown two_items (λ l. Ok (9 ∷ l)) ≡ Ok (9 ∷ 4 ∷ 5 ∷ []))
      × (on_shown two_items (λ l. turned_down) ≡ turned_down)
  pub refused-then : on_shown turned_down (λ l. Ok (9 ∷ l)) ≡ turned_down
  pub done-then :
      (on_done (Ok 2) (λ n. Ok (n ∷ [])) ≡ Ok (2 ∷ []))
      × (on_done (Err (NoBlock 3)) (λ n. Ok (n ∷ [])) ≡ turned_down)
  pub fine-then :
      (on_fine (Ok tt) two_items ≡ two_items) × (on_fine (Err (NoBlock 3)) two_items ≡ turned_down)
      × (on_fine (Ok tt) turned_down ≡ turned_down)
  -- the first of two that do not fit
  pub checks :
      (then_check (Ok tt) (Ok tt) ≡ Ok tt) × (then_check (Ok tt) (Err NoPlace) ≡ Err NoPlace)
      × (then_check (Err WrongVersion) (Ok tt) ≡ Err WrongVersion)
      × (then_check (Err WrongVersion) (Err NoPlace) ≡ Err WrongVersion)
  -- each item's part, in order
  pub each_part : (each suc two_items ≡ Ok (5 ∷ 6 ∷ [])) × (each suc turned_down ≡ turned_down)
