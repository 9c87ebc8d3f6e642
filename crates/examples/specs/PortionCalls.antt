-- Facts of def_portions' Calls and Lists: what one call gives, in which order it is refused, and how events are held.
-- RULES, "Packets in portions".
use Rattle.std.specs.Prelude.{ℕ, ◌≡◌, List, [], ◌∷◌, ◌++◌, take, drop, Ok, Err}
use Rattle.def_refusals.specs.Answers.{Or}
use Rattle.def_refusals.specs.declared.Refusal.TheVariants.{TooShort, WrongVersion, Padded, PastEnd, NoRoom}
use Rattle.def_refusals.specs.declared.Refusal.TheVariants.{BlockTooLong, BadBlockLength}
use Rattle.def_portions.specs.declared.Event.{Event}
use Rattle.def_portions.specs.declared.Event.TheVariants.{Header, Start, Ranged as RangedStart, Number, End}
use Rattle.def_portions.specs.Calls.{Call, call_of, past_fault}
use Rattle.def_portions.specs.Lists.{keeps, puts, tag_of, number_part, value_part, tag_part, laid}
use Rattle.examples.specs.Rows.{rows, packet, fields}
use Rattle.examples.specs.Portions.{pair, entry, time, mixed, off, bad-rule, bad-length, lost, lost-events}

abbrev pub call : List Event → Or (Unit {0}) → List ℕ → Call
call es x b = record { events = es; refusal = x; taken = b }

-- a header that announces 4 bytes; one of version 1; with P
abbrev pub short : List ℕ
short = rows (0x80cf0000 ∷ [])

abbrev pub version1 : List ℕ
version1 = rows (0x40cf0001 ∷ [])

abbrev pub with-p : List ℕ
with-p = rows (0xa0cf0001 ∷ [])

pub record Past : Type 0 where
  -- not known before the fourth byte, nor of a bad header
  pub unknown : (past_fault (0x80 ∷ 0xcf ∷ 0 ∷ []) ≡ Ok tt) × (past_fault (version1 ++ rows (1 ∷ 2 ∷ [])) ≡ Ok tt)
  -- 19: the announced length, and one byte over
  pub over :
      (past_fault (packet []) ≡ Ok tt) × (past_fault (packet [] ++ 0 ∷ []) ≡ Err (PastEnd 8 9))
      × (past_fault (rows (0x80cf0002 ∷ [])) ≡ Ok tt)

pub record OneCall : Type 0 where
  -- only what this call's bytes complete
  pub adds :
      (call_of [] mixed 6
      ≡ call (Header 32 1 ∷ Start 99 8 ∷ Start 4 12 ∷ time 0x100000002 ∷ Start 98 4 ∷ End ∷ []) (Ok tt) mixed)
      × (call_of (take 8 mixed) (take 12 (drop 8 mixed)) 2 ≡ call (Start 99 8 ∷ Start 4 12 ∷ []) (Ok tt) (take 20 mixed))
      × (call_of (take 31 mixed) (drop 31 mixed) 2 ≡ call (Start 98 4 ∷ End ∷ []) (Ok tt) mixed)
  -- begin off the grid: a word's numbers fit into room for two, and the second word has one
  pub off-the-grid :
      (call_of (take 20 off) (take 2 (drop 20 off)) 1 ≡ call [] (Err (NoRoom 2 1)) (take 20 off))
      × (call_of (take 20 off) (take 2 (drop 20 off)) 2 ≡ call (Number 8 ∷ Number 12 ∷ []) (Ok tt) (take 22 off))
      × (call_of (take 22 off) (take 2 (drop 22 off)) 1 ≡ call (Number 16 ∷ []) (Ok tt) (take 24 off))
  -- no bytes: nothing, and no room is needed
  pub none :
      (call_of [] [] 0 ≡ call [] (Ok tt) []) × (call_of (take 9 mixed) [] 0 ≡ call [] (Ok tt) (take 9 mixed))
      × (call_of mixed [] 0 ≡ call [] (Ok tt) mixed)
  -- 11: needed, lent; nothing is taken
  pub room :
      (call_of [] mixed 5 ≡ call [] (Err (NoRoom 6 5)) [])
      × (call_of (take 8 mixed) (take 4 (drop 8 mixed)) 0 ≡ call [] (Err (NoRoom 1 0)) (take 8 mixed))
      × (call_of (take 8 mixed) (take 4 (drop 8 mixed)) 1 ≡ call (Start 99 8 ∷ []) (Ok tt) (take 12 mixed))
  -- 19: announced, given in all; nothing is taken; behind the end too
  pub past :
      (call_of [] (packet [] ++ 0 ∷ []) 9 ≡ call [] (Err (PastEnd 8 9)) [])
      × (call_of (take 3 mixed) (drop 3 mixed ++ 1 ∷ 2 ∷ []) 9 ≡ call [] (Err (PastEnd 32 34)) (take 3 mixed))
      × (call_of mixed (7 ∷ []) 9 ≡ call [] (Err (PastEnd 32 33)) mixed)
  -- 6 and 7 list what came before, and take all of the call's bytes
  pub seven : call_of [] bad-rule 2 ≡ call (Header 32 1 ∷ Start 99 4 ∷ []) (Err (BadBlockLength 12 16)) bad-rule
  pub six : call_of (take 12 bad-length) (drop 12 bad-length) 0 ≡ call [] (Err (BlockTooLong 12 8)) bad-length
  -- 7 by a run of no length: at the word's second byte, not at its first
  pub lost-run :
      (call_of [] lost 3 ≡ call lost-events (Err (BadBlockLength 12 20)) lost)
      × (call_of (take 20 lost) (take 3 (drop 20 lost)) 1 ≡ call (Number 10 ∷ []) (Ok tt) (take 23 lost))
      × (call_of (take 20 lost) (take 4 (drop 20 lost)) 1
      ≡ call (Number 10 ∷ []) (Err (BadBlockLength 12 20)) (take 24 lost))
      × (call_of (take 23 lost) (take 1 (drop 23 lost)) 0 ≡ call [] (Err (BadBlockLength 12 20)) (take 24 lost))
  -- 1, 2, 3 and 18 take the bytes too
  pub head :
      (call_of [] short 0 ≡ call [] (Err (TooShort 8 4)) short)
      × (call_of (take 2 version1) (drop 2 version1 ++ 0 ∷ []) 0 ≡ call [] (Err WrongVersion) (version1 ++ 0 ∷ []))
      × (call_of [] with-p 0 ≡ call [] (Err Padded) with-p)

pub record Orders : Type 0 where
  -- what stays stays: with no bytes, with more, with too many
  pub stays :
      (call_of version1 [] 0 ≡ call [] (Err WrongVersion) version1)
      × (call_of version1 (rows (1 ∷ 2 ∷ [])) 0 ≡ call [] (Err WrongVersion) version1)
      × (call_of (take 16 bad-rule) (drop 16 bad-rule) 9 ≡ call [] (Err (BadBlockLength 12 16)) (take 16 bad-rule))
      × (call_of bad-rule (1 ∷ []) 9 ≡ call [] (Err (BadBlockLength 12 16)) bad-rule)
  pub lost-run-stays :
      (call_of (take 24 lost) [] 0 ≡ call [] (Err (BadBlockLength 12 20)) (take 24 lost))
      × (call_of (take 24 lost) (drop 24 lost) 9 ≡ call [] (Err (BadBlockLength 12 20)) (take 24 lost))
      × (call_of lost (1 ∷ 2 ∷ []) 9 ≡ call [] (Err (BadBlockLength 12 20)) lost)
  -- 1, 2, 3 and 18 before 19: here 8 bytes are announced and 9 are given
  pub head_first :
      (call_of [] (version1 ++ rows (1 ∷ []) ++ 0 ∷ []) 0
      ≡ call [] (Err WrongVersion) (version1 ++ rows (1 ∷ []) ++ 0 ∷ []))
      × (call_of [] (short ++ rows (1 ∷ [])) 0 ≡ call [] (Err (TooShort 8 4)) (short ++ rows (1 ∷ [])))
  -- 19 before 11
  pub past_first : call_of [] (packet [] ++ 0 ∷ []) 0 ≡ call [] (Err (PastEnd 8 9)) []
  -- 19 before 6 and 7
  pub past-before-seven : call_of [] (bad-rule ++ 0 ∷ []) 9 ≡ call [] (Err (PastEnd 32 33)) []
  -- 11 before 6 and 7, by the events before them
  pub room-before-seven :
      (call_of [] bad-rule 1 ≡ call [] (Err (NoRoom 2 1)) [])
      × (call_of [] bad-length 1 ≡ call [] (Err (NoRoom 2 1)) [])
  -- 19 and 11 before a run of no length, by the events before it; then with room
  pub before-a-lost-run :
      (call_of [] (lost ++ 0 ∷ []) 9 ≡ call [] (Err (PastEnd 32 33)) [])
      × (call_of [] lost 2 ≡ call [] (Err (NoRoom 3 2)) [])
      × (call_of (take 20 lost) (drop 20 lost) 0 ≡ call [] (Err (NoRoom 1 0)) (take 20 lost))
      × (call_of (take 20 lost) (drop 20 lost) 1 ≡ call (Number 10 ∷ []) (Err (BadBlockLength 12 20)) lost)

-- how each event is held
pub record Held : Type 0 where
  pub header :
      (tag_of (Header 32 7) ≡ 0x2001) × (number_part (Header 32 7) ≡ keeps) × (value_part (Header 32 7) ≡ puts 7)
  pub start :
      (tag_of (Start 99 8) ≡ 0x86302) × (number_part (Start 99 8) ≡ keeps) × (value_part (Start 99 8) ≡ keeps)
      × (tag_of (Start 255 262144) ≡ 0x40000ff02)
  pub ranged :
      (tag_of (RangedStart 2 16 (fields 7 10 14 5)) ≡ 0x50000100203)
      × (number_part (RangedStart 2 16 (fields 7 10 14 5)) ≡ keeps)
      × (value_part (RangedStart 2 16 (fields 7 10 14 5)) ≡ puts 0x00000007000a000e)
  pub number : (tag_of (Number 9) ≡ 4) × (number_part (Number 9) ≡ puts 9) × (value_part (Number 9) ≡ keeps)
  pub of_pair : (tag_of (pair 9 100) ≡ 5) × (number_part (pair 9 100) ≡ puts 9) × (value_part (pair 9 100) ≡ puts 100)
  pub of_entry :
      (tag_of (entry 1 2 3) ≡ 0x106) × (number_part (entry 1 2 3) ≡ keeps) × (value_part (entry 1 2 3) ≡ puts 0x200000003)
  pub of-time : (tag_of (time 5) ≡ 7) × (number_part (time 5) ≡ keeps) × (value_part (time 5) ≡ puts 5)
  pub end : (tag_of End ≡ 8) × (number_part End ≡ keeps) × (value_part End ≡ keeps)
  -- one event after another, from an index on; what an event does not have is left
  pub lists :
      (laid tag_part (Start 99 8 ∷ Number 9 ∷ []) 1 (1 ∷ 2 ∷ 3 ∷ 6 ∷ []) ≡ 1 ∷ 0x86302 ∷ 4 ∷ 6 ∷ [])
      × (laid number_part (Start 99 8 ∷ Number 9 ∷ []) 0 (1 ∷ 2 ∷ 3 ∷ []) ≡ 1 ∷ 9 ∷ 3 ∷ [])
      × (laid value_part (Header 32 7 ∷ Number 9 ∷ time 5 ∷ []) 0 (1 ∷ 2 ∷ 3 ∷ []) ≡ 7 ∷ 2 ∷ 5 ∷ [])
