-- The ways in which a cursor's call ends: the one place that unfolds `advance_fault`, `advance_of` and `stretch_filled`.
-- Assumes nothing.
--     range-fits               no range has over 65,536 positions inside
--     advancing-*              of words in a range: 16, 11, or a stretch
--     stretched-*              of a block's view: 10 and 7, or the words
--     stretched-at, -missing   of a packet and a block's index
use Rattle.std.specs.Prelude.{Ok, Err}
use Prim.Native.Nat.{ℕ, ◌≤◌, ◌<◌}
use mathlib.Core.Path.{◌≡◌, ap}
use mathlib.Core.Bool.{true, false}
use mathlib.Core.List.{List}
use native.Mathlib.Omega.{arith}
use lib.ListN.{length, drop, length-drop}
use lib.Seq.{take_all}
use borrow.Author.Tests.{le-leb, lt-leb}
use Rattle.def_refusals.specs.Answers.{Or}
use Rattle.def_refusals.specs.declared.Refusal.{Refusal}
use Rattle.def_refusals.specs.declared.Refusal.TheVariants.{NoPlace, NoRoom}
use Rattle.def_wire.specs.declared.Fields.{Fields}
use Rattle.def_wire.specs.declared.Reading.TheVariants.{Standard}
use Rattle.def_wire.specs.declared.Rle.{Rle}
use Rattle.def_wire.specs.declared.Ranged.TheVariants.{Chunks}
use Rattle.def_wire.specs.declared.Kind.TheVariants.{Spans}
use Rattle.def_wire.specs.Packet.{locate, part}
use Rattle.def_wire.specs.Block.{fields_at, check_of}
use Rattle.def_standard.specs.declared.Range.{Range}
use Rattle.def_standard.specs.Range.{circle, range_of}
use Rattle.def_standard.specs.Standard.{standard_words}
use Rattle.range.specs.Inside.{inside_count}
use Rattle.range.proofs.InsideLaws.{inside-count-le}
use Rattle.range.proofs.GridLaws.{range_size}
use Rattle.def_cursor.specs.declared.Cursor.{Cursor}
use Rattle.def_cursor.specs.declared.Stretch.{Stretch}
use Rattle.def_cursor.specs.Cursor.{legal, advance_fault, advance_of, stretch_filled, Stretched, StretchedIn}
use Rattle.cursor.specs.Steps.{Gone, Advancing}

-- no range has over 65,536 positions inside
pub range-fits : (f : Fields) → inside_count (range_of f) ≤ circle
range-fits f = omega (arith, range_size f, inside-count-le (range_of f))

-- the part that is lent behind the fields: all of the words' bytes
pub words-behind : (v : List ℕ) → part v 12 (length v) ≡ drop 12 v
words-behind v = take_all (length v) (drop 12 v) (let h : length (drop 12 v) ≤ length v = omega
    (arith, length-drop 12 v) in h)

-- ---- words in a range

module _ (g : Range) (ws : List ℕ) (c : Cursor) (budget : ℕ) (out : List ℕ) where
  pub advancing-illegal : legal ws c ≡ false → Advancing g ws c budget out (Err NoPlace) out
  advancing-illegal e = record { answer = rw e; filled = rw e }

  pub advancing-full : legal ws c ≡ true → length out < budget
      → Advancing g ws c budget out (Err (NoRoom budget (length out))) out
  advancing-full e h = record { answer = rw (e, lt-leb _ _ h); filled = rw (e, lt-leb _ _ h) }

  pub advancing-gone : (r : Stretch) (out' : List ℕ) → legal ws c ≡ true → budget ≤ length out
      → Gone g ws c budget out r out' → Advancing g ws c budget out (Ok r) out'
  advancing-gone r out' e h p = record {
    answer = rw (e, le-leb _ _ h) (ap Ok p.answer);
    filled = rw
        (e, le-leb _ _ h) p.filled;
  }

-- ---- a block's view

module _ (a : Rle) (v : List ℕ) (c : Cursor) (budget : ℕ) (out : List ℕ) where
  pub stretched-fit : (r : Or Stretch) (out' : List ℕ) → check_of Standard (Spans (Chunks a)) v ≡ Ok tt
      → Advancing (range_of (fields_at v)) (standard_words v) c budget out r out'
      → Stretched a v c budget out r out'
  unfolding advance_fault advance_of stretch_filled
  stretched-fit r out' e p = record { answer = rw e p.answer; filled = rw e p.filled }

  pub stretched-unfit : (x : Refusal) → check_of Standard (Spans (Chunks a)) v ≡ Err x
      → Stretched a v c budget out (Err x) out
  unfolding advance_fault advance_of stretch_filled
  stretched-unfit x e = record { answer = rw e; filled = rw e }

-- ---- a packet and a block's index

module _ (s : List ℕ) (k : ℕ) (a : Rle) (c : Cursor) (budget : ℕ) (out : List ℕ) where
  pub stretched-at : (at n : ℕ) (v : List ℕ) (r : Or Stretch) (out' : List ℕ) → locate Standard s k ≡ Ok (at, n)
      → v ≡ part s at n
      → Stretched a v c budget out r out' → StretchedIn s k a c budget out r out'
  stretched-at at n v r out' e q p =
      let f : Stretched a (part s at n) c budget out r out' = rw q at p in
      record { answer = rw e f.answer; filled = rw e f.filled }

  pub stretched-missing : (x : Refusal) → locate Standard s k ≡ Err x → StretchedIn s k a c budget out (Err x) out
  stretched-missing x e = record { answer = rw e; filled = rw e }
