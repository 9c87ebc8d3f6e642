-- Facts of def_jobs' Shown: all that a block shows in each reading, and when two show the same.
-- RULES, "Job lists and writing": "Shown" compares fields, numbers, times, entries; not chunk words.
use Rattle.std.specs.Prelude.{◌≡◌, true, false, [], ◌∷◌, map, Ok, Err}
use Rattle.def_refusals.specs.declared.Refusal.TheVariants.{BadBlockLength, NoFields}
use Rattle.def_wire.specs.declared.Reading.TheVariants.{Standard, Crate}
use Rattle.def_wire.specs.declared.Rle.TheVariants.{Loss, Duplicate}
use Rattle.def_jobs.specs.Shown.{Record, reported, received, clocked, echoed, bare}
use Rattle.def_jobs.specs.Shown.{record_of, numbers_row, same_row, same_record}
use Rattle.examples.specs.Rows.{fields, rows}
use Rattle.examples.specs.Standard.{echo, pair}

-- the record of each kind, in each reading
pub record OfABlock : Type 0 where
  pub loss :
      (record_of Standard (rows (0x01010003 ∷ 7 ∷ 0x000a000f ∷ 0x40024001 ∷ []))
      ≡ Ok (reported Loss (fields 7 10 15 1) (10 ∷ 12 ∷ 14 ∷ [])))
      × (record_of Crate (rows (0x01010003 ∷ 7 ∷ 0x000a000f ∷ 0x40024001 ∷ []))
      ≡ Ok (reported Loss (fields 7 10 15 1) (10 ∷ 12 ∷ [])))
  pub duplicate :
      (record_of Standard (rows (0x02000003 ∷ 7 ∷ 0x000a000f ∷ 0x40024001 ∷ []))
      ≡ Ok (reported Duplicate (fields 7 10 15 0) (10 ∷ 11 ∷ 12 ∷ [])))
      × (record_of Crate (rows (0x02000003 ∷ 7 ∷ 0x000a000f ∷ 0x40024001 ∷ []))
      ≡ Ok (reported Duplicate (fields 7 10 15 0) (10 ∷ 11 ∷ [])))
  pub receipt-times :
      (record_of Standard (rows (0x03000004 ∷ 7 ∷ 0x00050006 ∷ 100 ∷ 200 ∷ []))
      ≡ Ok (received (fields 7 5 6 0) (pair 5 100 ∷ [])))
      × (record_of Crate (rows (0x03000003 ∷ 7 ∷ 0x00050009 ∷ 100 ∷ 200 ∷ []))
      ≡ Ok (received (fields 7 5 9 0) (pair 5 100 ∷ pair 6 200 ∷ [])))
  pub time :
      (record_of Standard (rows (0x04000002 ∷ 1 ∷ 2 ∷ [])) ≡ Ok (clocked (record { 0 = 0x100000002 })))
      × (record_of Crate (rows (0x04000000 ∷ 1 ∷ 2 ∷ [])) ≡ Ok (clocked (record { 0 = 0x100000002 })))
  pub entries :
      (record_of Standard (rows (0x05000003 ∷ 1 ∷ 2 ∷ 3 ∷ [])) ≡ Ok (echoed (echo 1 2 3 ∷ [])))
      × (record_of Crate (rows (0x05000003 ∷ 1 ∷ 2 ∷ 3 ∷ 4 ∷ 5 ∷ 6 ∷ []))
      ≡ Ok (echoed (echo 1 2 3 ∷ echo 4 5 6 ∷ [])))
  -- any other type shows type and length only, whatever its length
  pub other :
      (record_of Standard (rows (0x00000000 ∷ [])) ≡ Ok bare)
      × (record_of Crate (rows (0x06000001 ∷ 1 ∷ [])) ≡ Ok bare)
      × (record_of Standard (rows (0xff000001 ∷ 1 ∷ [])) ≡ Ok bare)
  -- 7 in each reading's own rule, and 8 of the crate's type 3
  pub refusal :
      (record_of Standard (rows (0x01000001 ∷ 7 ∷ [])) ≡ Err (BadBlockLength 12 8))
      × (record_of Crate (rows (0x02000001 ∷ 7 ∷ [])) ≡ Err (BadBlockLength 12 8))
      × (record_of Standard (rows (0x03000001 ∷ 7 ∷ [])) ≡ Err (BadBlockLength 12 8))
      × (record_of Crate (rows (0x03000001 ∷ 7 ∷ [])) ≡ Err (NoFields 8))
      × (record_of Standard (rows (0x04000000 ∷ [])) ≡ Err (BadBlockLength 12 4))
      × (record_of Standard (rows (0x05000001 ∷ 7 ∷ [])) ≡ Err (BadBlockLength 16 8))
      × (record_of Crate (rows (0x05000001 ∷ 7 ∷ [])) ≡ Err (BadBlockLength 16 8))
  -- a run of no length: 7 in the standard, and the crate shows the rest
  pub lost-run :
      (record_of Standard (rows (0x01000003 ∷ 7 ∷ 0x000a000f ∷ 0x40024000 ∷ [])) ≡ Err (BadBlockLength 12 16))
      × (record_of Crate (rows (0x01000003 ∷ 7 ∷ 0x000a000f ∷ 0x40024000 ∷ []))
      ≡ Ok (reported Loss (fields 7 10 15 0) (10 ∷ 11 ∷ [])))
  -- begin off the grid: each reading's own numbers, with the same fields
  pub off-the-grid :
      (record_of Standard (rows (0x01020003 ∷ 7 ∷ 0x00050014 ∷ 0x40040000 ∷ []))
      ≡ Ok (reported Loss (fields 7 5 20 2) (8 ∷ 12 ∷ 16 ∷ [])))
      × (record_of Crate (rows (0x01020003 ∷ 7 ∷ 0x00050014 ∷ 0x40040000 ∷ []))
      ≡ Ok (reported Loss (fields 7 5 20 2) (5 ∷ 9 ∷ 13 ∷ 17 ∷ [])))
      × (record_of Standard (rows (0x03020003 ∷ 7 ∷ 0x00050014 ∷ 100 ∷ []))
      ≡ Ok (received (fields 7 5 20 2) (pair 8 100 ∷ [])))
      × (record_of Crate (rows (0x03020003 ∷ 7 ∷ 0x00050014 ∷ 100 ∷ []))
      ≡ Ok (received (fields 7 5 20 2) (pair 5 100 ∷ [])))

abbrev pub a-loss : Record
a-loss = reported Loss (fields 7 10 15 1) (10 ∷ 12 ∷ [])

abbrev pub a-receipt : Record
a-receipt = received (fields 7 5 9 0) (pair 5 100 ∷ [])

abbrev pub a-time : Record
a-time = clocked (record { 0 = 9 })

abbrev pub an-echo : Record
an-echo = echoed (echo 1 2 3 ∷ [])

pub record TheSame : Type 0 where
  -- a record's numbers in a row, its type first
  pub in_a_row :
      (numbers_row a-loss ≡ 1 ∷ 7 ∷ 10 ∷ 15 ∷ 1 ∷ 10 ∷ 12 ∷ [])
      × (numbers_row (reported Duplicate (fields 7 10 15 1) []) ≡ 2 ∷ 7 ∷ 10 ∷ 15 ∷ 1 ∷ [])
      × (numbers_row a-receipt ≡ 3 ∷ 7 ∷ 5 ∷ 9 ∷ 0 ∷ 5 ∷ 100 ∷ []) × (numbers_row a-time ≡ 4 ∷ 9 ∷ [])
      × (numbers_row an-echo ≡ 5 ∷ 1 ∷ 2 ∷ 3 ∷ []) × (numbers_row bare ≡ [])
  pub rows_alike :
      (same_row [] [] ≡ true) × (same_row (1 ∷ 2 ∷ []) (1 ∷ 2 ∷ []) ≡ true) × (same_row [] (1 ∷ []) ≡ false)
      × (same_row (1 ∷ []) [] ≡ false) × (same_row (1 ∷ 2 ∷ []) (1 ∷ 3 ∷ []) ≡ false)
      × (same_row (1 ∷ 2 ∷ []) (3 ∷ 2 ∷ []) ≡ false)
      × (same_row (1 ∷ 2 ∷ []) (1 ∷ []) ≡ false) × (same_row (1 ∷ []) (1 ∷ 2 ∷ []) ≡ false)
  -- each the same as itself
  pub itself :
      (same_record a-loss a-loss ≡ true) × (same_record a-receipt a-receipt ≡ true) × (same_record a-time a-time ≡ true)
      × (same_record an-echo an-echo ≡ true) × (same_record bare bare ≡ true)
  -- types 1 and 2: which of them, SSRC, begin, end, thinning, a number, one number more, one less
  pub reports-differ :
      map (same_record a-loss)
      (reported Duplicate (fields 7 10 15 1) (10 ∷ 12 ∷ []) ∷ reported Loss (fields 8 10 15 1) (10 ∷ 12 ∷ [])
      ∷ reported Loss (fields 7 11 15 1) (10 ∷ 12 ∷ []) ∷ reported Loss (fields 7 10 16 1) (10 ∷ 12 ∷ [])
      ∷ reported Loss (fields 7 10 15 0) (10 ∷ 12 ∷ []) ∷ reported Loss (fields 7 10 15 1) (10 ∷ 14 ∷ [])
      ∷ reported Loss (fields 7 10 15 1) (10 ∷ 12 ∷ 14 ∷ []) ∷ reported Loss (fields 7 10 15 1) (10 ∷ []) ∷ [])
      ≡ false ∷ false ∷ false ∷ false ∷ false ∷ false ∷ false ∷ false ∷ []
  -- type 3: a field, a number, a time, one pair more
  pub receipts-differ :
      map (same_record a-receipt)
      (received (fields 7 5 9 1) (pair 5 100 ∷ []) ∷ received (fields 7 5 9 0) (pair 6 100 ∷ [])
      ∷ received (fields 7 5 9 0) (pair 5 101 ∷ []) ∷ received (fields 7 5 9 0) (pair 5 100 ∷ pair 6 100 ∷ []) ∷ [])
      ≡ false ∷ false ∷ false ∷ false ∷ []
  -- type 5: SSRC, last report, delay, one entry more; type 4: the time
  pub entries-differ :
      map (same_record an-echo)
      (echoed (echo 9 2 3 ∷ []) ∷ echoed (echo 1 9 3 ∷ []) ∷ echoed (echo 1 2 9 ∷ [])
      ∷ echoed (echo 1 2 3 ∷ echo 1 2 3 ∷ []) ∷ echoed [] ∷ [])
      ≡ false ∷ false ∷ false ∷ false ∷ false ∷ []
  pub times-differ : same_record a-time (clocked (record { 0 = 10 })) ≡ false
  -- records of different kinds, with the same numbers or none
  pub kinds-differ :
      (same_record (reported Loss (fields 7 10 15 1) []) (received (fields 7 10 15 1) []) ≡ false)
      × (same_record a-time (echoed []) ≡ false) × (same_record bare (echoed []) ≡ false)
      × (same_record a-time bare ≡ false)
