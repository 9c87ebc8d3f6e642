-- Runs of ones that are passed whole: one turn of `list_runs`, on plain lists and numbers. Assumes nothing.
use Prim.Native.Nat.{ℕ, zero, suc, ◌+◌, ◌*◌, min, ◌%◌, ◌^◌, ◌≤◌, ◌<◌}
use mathlib.Core.Path.{◌≡◌, refl, sym, ap, ◌∙◌}
use mathlib.Core.Bool.{true, ◌&&◌}
use mathlib.Core.List.{List, [], ◌++◌, append_assoc}
use native.Mathlib.Nat.{mod-lt}
use native.Mathlib.Omega.{arith}
use lib.Dec.{ltb, leb, lit<}
use lib.ListN.{length, length-append}
use borrow.Author.Tests.{le-ltb, ltb-true, leb-true}
use Rattle.laws.proofs.Tests.{and-true}
use Rattle.laws.specs.Stores.{Wrote}
use Rattle.laws.proofs.Stores.{none, and_then, same}
use Rattle.def_wire.specs.Bytes.{be16}
use Rattle.chunk.proofs.ChunkLaws.{covers-run}
use Rattle.def_standard.specs.Chunks.{covers_of}
use Rattle.def_crate.specs.Sequence.{moved_by}
use Rattle.range.specs.Steps.{step_of, onward}
use Rattle.range.specs.Failing.{first_fail}
use Rattle.ones.specs.Along.{progression, past}
use Rattle.ones.specs.Stops.{stop_at}
use Rattle.rle.specs.Runs.{here, Ran}
use Rattle.ones.proofs.ListingLaws.{length-progression}
use Rattle.ones.proofs.WordLaws.{word_ones}
use Rattle.range.proofs.SequenceLaws.{moved-sequence, sequence_of-suc}
use Rattle.ones.proofs.StopLaws.{stop-clear}
use Rattle.range.proofs.NextLaws.{next-same}
use Rattle.rle_words.proofs.Turn.{next}
use Rattle.rle.proofs.CrateTurn.{turn}

-- the number after a run is where the start moves to
pub past-moved : (t start n : ℕ) → start < 65536 → past (step_of t) start n ≡ moved_by n t start
unfolding past
past-moved t start zero s = sym (next-same start 0 t 0 s (lit< tt) refl)
past-moved t start (suc n) s =
    ap (onward (step_of t)) (past-moved t start n s ∙ moved-sequence n t start)
    ∙ sym (sequence_of-suc n start t) ∙ sym (moved-sequence (suc n) t start)

-- a run of ones that ends before the first place that fails, or at it
pub record Clear (w first : ℕ) : Type 0 where
  pub ones : 16384 ≤ w
  pub run : w < 32768
  pub clear : w % 16384 ≤ first

pub clear-run : (w first : ℕ) → (leb 16384 w && (ltb w 32768 && leb (w % 16384) first)) ≡ true → Clear w first
clear-run w first e =
    let a = and-true (leb 16384 w) (ltb w 32768 && leb (w % 16384) first) e in
    let b = and-true (ltb w 32768) (leb (w % 16384) first) a.1 in
    record { ones = leb-true _ _ a.0; run = ltb-true _ _ b.0; clear = leb-true _ _ b.1 }

module _ (end t : ℕ) (bytes : List ℕ) (at₀ start₀ : ℕ) (l₀ : List ℕ) (n₀ : ℕ) where
  pub begun : (first : ℕ) → at₀ ≤ length bytes → start₀ < 65536 → first ≡ first_fail start₀ end t
      → Ran end t bytes at₀ start₀ l₀ n₀ at₀ start₀ first l₀ n₀
  begun first h s f =
      record {
        onward = omega arith;
        within = h;
        small = s;
        fails = f;
        numbers = [];
        split = refl;
        wrote = none;
      }

module _ {end t : ℕ} {bytes : List ℕ} {at₀ start₀ : ℕ} {l₀ : List ℕ} {n₀ : ℕ} where
  module _ {at start first : ℕ} {l : List ℕ} {n : ℕ} (r : Ran end t bytes at₀ start₀ l₀ n₀ at start first l n)
      (e : end < 65536) (h : at + 1 < length bytes) (c : Clear (be16 bytes at) first) where
    abbrev w : ℕ
    w = be16 bytes at

    abbrev count : ℕ
    count = w % 16384

    covers : covers_of w ≡ count
    covers = covers-run w c.run

    stops : stop_at start end t w ≡ covers_of w
    stops = stop-clear start end t w r.small e (omega (arith, covers, c.clear, r.fails))

    -- the word's numbers, and what follows them
    abbrev run : List ℕ
    run = progression (step_of t) start count

    abbrev rest : List ℕ
    rest = here end t bytes (at + 2) (moved_by count t start)

    comes : here end t bytes at start ≡ run ++ rest
    comes =
        let k : covers_of w ≤ stop_at start end t w = omega (arith, stops) in
        let m : min (stop_at start end t w) count ≡ count = omega (arith, stops, covers) in
        next (turn end t bytes at start r.small h) (le-ltb _ _ k)
        ∙ (rw (word_ones (step_of t) start (stop_at start end t w) w c.ones c.run, m, covers))

    -- there is room for them
    pub room : n₀ + length (here end t bytes at₀ start₀) ≤ length l₀ → n + count ≤ length l
    room k =
        let before = ap length r.split ∙ length-append r.numbers (here end t bytes at start) in
        let after = ap length comes ∙ length-append run rest in
        omega (arith, k, same r.wrote, r.wrote.past, before, after, length-progression (step_of t) start count)

    pub turned : {l' : List ℕ} {n' start' first' : ℕ} → Wrote l n run l' n' → start' ≡ moved_by count t start
        → first' ≡ first_fail start' end t → Ran end t bytes at₀ start₀ l₀ n₀ (at + 2) start' first' l' n'
    turned w' m f =
        record {
          onward = omega (arith, r.onward);
          within = omega arith;
          small = rw m (mod-lt (start + count * 2 ^ t % 65536) (lit< tt));
          fails = f;
          numbers = r.numbers ++ run;
          split = r.split ∙ ap (◌++◌ r.numbers) comes ∙ sym (append_assoc r.numbers run rest) ∙ (rw m);
          wrote = and_then r.wrote w';
        }
