-- RULES, "Twelve examples to prove together": one statement covers the list. proofs/Twelve.antt proves it by
-- computation.
use Rattle.std.specs.Prelude.{◌≡◌, [], ◌∷◌, ◌++◌, Ok, Err}
use Rattle.def_refusals.specs.declared.Refusal.TheVariants.{TooShort, BadBlockLength, Misleads}
use Rattle.def_refusals.specs.Numbers.{numbered, row}
use Rattle.def_wire.specs.declared.Reading.TheVariants.{Standard, Crate}
use Rattle.def_wire.specs.Packet.{count_of, length_at}
use Rattle.def_wire.specs.declared.Rle.TheVariants.{Loss}
use Rattle.def_wire.specs.declared.Ranged.TheVariants.{Chunks}
use Rattle.def_standard.specs.Chunks.{covers_of}
use Rattle.def_standard.specs.Range.{range_of}
use Rattle.def_standard.specs.Standard.{numbers_of, receipt}
use Rattle.def_crate.specs.Crate.{ones_in}
use Rattle.def_questions.specs.Packets.{numbers_asked, pairs_asked, entries_asked, fields_asked}
use Rattle.def_jobs.specs.declared.Layout.TheVariants.{Careful}
use Rattle.def_jobs.specs.Writing.{packet_of}
use Rattle.examples.specs.Vectors.{packet3, packet4, packet5, packet6, packet7, packet9, packet10, turned10}
use Rattle.examples.specs.Vectors.{packet11, packet12, header_job, loss_job, echo_job, clock_job}
use Rattle.examples.specs.Rows.{fields}
use Rattle.examples.specs.Standard.{echo}

pub record Twelve : Type 0 where
  -- words 0, 3, 32768 list nothing and cover 0, 3, 15
  pub one :
      (numbers_of (range_of (fields 7 0 0 0)) (0 ∷ 3 ∷ 32768 ∷ []) ≡ []) × (covers_of 0 ≡ 0) × (covers_of 3 ≡ 3)
      × (covers_of 32768 ≡ 15)
  -- word 49152 has its one at place 0; 32769 at place 14
  pub two : (ones_in 49152 ≡ 0 ∷ []) × (ones_in 32769 ≡ 14 ∷ [])
  -- 65534, 65535, 0, 1 in both
  pub three :
      (numbers_asked Standard packet3 0 Loss ≡ Ok (65534 ∷ 65535 ∷ 0 ∷ 1 ∷ []))
      × (numbers_asked Crate packet3 0 Loss ≡ Ok (65534 ∷ 65535 ∷ 0 ∷ 1 ∷ []))
  -- the dump
  pub four :
      (count_of Standard packet4 ≡ Ok 1) × (count_of Crate packet4 ≡ Ok 1) × (length_at packet4 8 ≡ 16)
      × (fields_asked Standard packet4 0 (Chunks Loss) ≡ Ok (fields 7 10 14 0))
      × (fields_asked Crate packet4 0 (Chunks Loss) ≡ Ok (fields 7 10 14 0))
      × (numbers_asked Standard packet4 0 Loss ≡ Ok (10 ∷ 11 ∷ 12 ∷ 13 ∷ []))
      × (numbers_asked Crate packet4 0 Loss ≡ Ok (10 ∷ 11 ∷ []))
  -- standard 10, 11; crate 10 to 15
  pub five :
      (numbers_asked Standard packet5 0 Loss ≡ Ok (10 ∷ 11 ∷ []))
      × (numbers_asked Crate packet5 0 Loss ≡ Ok (10 ∷ 11 ∷ 12 ∷ 13 ∷ 14 ∷ 15 ∷ []))
  -- standard 0, 32768; crate 0, 32768, 0
  pub six :
      (numbers_asked Standard packet6 0 Loss ≡ Ok (0 ∷ 32768 ∷ []))
      × (numbers_asked Crate packet6 0 Loss ≡ Ok (0 ∷ 32768 ∷ 0 ∷ []))
  -- standard two pairs; crate also 7 with 67108866 and 8 with the clock's high half
  pub seven :
      (pairs_asked Standard (packet7 9) 0 ≡ Ok (receipt 5 100 ∷ receipt 6 200 ∷ []))
      × (pairs_asked Crate (packet7 9) 0
      ≡ Ok (receipt 5 100 ∷ receipt 6 200 ∷ receipt 7 67108866 ∷ receipt 8 0x11223344 ∷ []))
  -- two pairs in both
  pub eight :
      (pairs_asked Standard (packet7 7) 0 ≡ Ok (receipt 5 100 ∷ receipt 6 200 ∷ []))
      × (pairs_asked Crate (packet7 7) 0 ≡ Ok (receipt 5 100 ∷ receipt 6 200 ∷ []))
  -- standard both; crate 7 with 40, 28
  pub nine :
      (entries_asked Standard packet9 0 ≡ Ok (echo 10 11 12 ∷ echo 20 21 22 ∷ []))
      × (entries_asked Crate packet9 0 ≡ Err (BadBlockLength 40 28))
      × (numbered (BadBlockLength 40 28) ≡ row 7 40 28)
  -- crate shows two; careful writing gives 15; in the other order it writes
  pub ten :
      (entries_asked Standard packet10 0 ≡ Ok (echo 10 11 12 ∷ []))
      × (entries_asked Crate packet10 0 ≡ Ok (echo 10 11 12 ∷ echo 0x04000002 0x11223344 0x55667788 ∷ []))
      × (packet_of Careful (header_job ++ (echo_job ++ clock_job)) ≡ Err (Misleads 0))
      × (numbered (Misleads 0) ≡ row 15 0 0)
      × (packet_of Careful (header_job ++ (clock_job ++ echo_job)) ≡ Ok turned10)
  -- L is 20
  pub eleven : (packet_of Careful (header_job ++ loss_job) ≡ Ok packet11) × (length_at packet11 8 ≡ 20)
  -- standard no blocks; crate 1
  pub twelve :
      (count_of Standard packet12 ≡ Ok 0) × (count_of Crate packet12 ≡ Err (TooShort 12 8))
      × (numbered (TooShort 12 8) ≡ row 1 12 8)
