-- What a reading is asked: a block's numbers and words from the bytes of its words, and each way in which they are
-- refused.
use Rattle.std.specs.Prelude.{Ok, Err}
use Prim.Native.Nat.{ℕ, ◌-◌, ◌≤◌}
use mathlib.Core.Path.{◌≡◌, refl, ap, ◌∙◌}
use mathlib.Core.List.{List}
use native.Mathlib.Omega.{arith}
use lib.ListN.{length, take, drop, length-take, length-drop}
use lib.Seq.{take_all}
use Rattle.def_refusals.specs.declared.Refusal.{Refusal}
use Rattle.def_refusals.specs.Answers.{Or, on_fine, Listed}
use Rattle.def_wire.specs.declared.Reading.{Reading}
use Rattle.def_wire.specs.declared.Reading.TheVariants.{Standard, Crate}
use Rattle.def_wire.specs.declared.Fields.{Fields}
use Rattle.def_wire.specs.declared.Rle.{Rle}
use Rattle.def_wire.specs.declared.Ranged.TheVariants.{Chunks}
use Rattle.def_wire.specs.declared.Kind.TheVariants.{Spans}
use Rattle.def_wire.specs.Packet.{locate, part}
use Rattle.def_wire.specs.Bytes.{words16}
use Rattle.def_wire.specs.Block.{clear_rule, check_of, block_length, fields_at}
use Rattle.def_standard.specs.Range.{range_of}
use Rattle.def_standard.specs.Standard.{numbers_of}
use Rattle.def_crate.specs.Crate.{crate_numbers_from}
use Rattle.def_questions.specs.Questions.{numbers_shown, words_shown, words_in}
use Rattle.def_questions.specs.Packets.{numbers_asked, words_asked}
use Rattle.block.specs.Lengths.{length_check}
use Rattle.block.proofs.BlockLaws.{length-first}
use Rattle.rle.specs.Most.{longest}
use Rattle.numbers.specs.Words.{word_bytes}

-- a part of at most n is the whole of what has no more
short : (n m : ℕ) (l : List ℕ) → m ≤ n → take n (take m l) ≡ take m l
short n m l h = take_all n (take m l) (rw (length-take m l) (omega arith))

-- the words' bytes in each reading
pub bytes-standard : (r : Reading) (v : List ℕ) → r ≡ Standard → part v 12 (length v) ≡ word_bytes r v
bytes-standard r v e =
    rw e (take_all (length v) (drop 12 v) (let h : length (drop 12 v) ≤ length v = omega (arith, length-drop 12 v) in
    h))

pub bytes-crate : (r : Reading) (v : List ℕ) (n l : ℕ) → r ≡ Crate → n ≡ l - 14 → l ≡ block_length v
    → part v 12 n ≡ word_bytes r v
bytes-crate r v n l e k q = rw (e, k, q)

-- a listing call's contract, of what is asked said otherwise
pub listed-as : {whole asked : Or (List ℕ)} {out out' : List ℕ} {a : Or ℕ} → whole ≡ asked → Listed whole out a out'
    → Listed asked out a out'
listed-as e l = rw (← e) l

-- from the fields and the words' bytes that were read
module _ (a : Rle) (v : List ℕ) (f : Fields) (b : List ℕ) (read : f ≡ fields_at v) where
  -- the standard's: the words are judged with the list
  pub numbers-standard : length_check a v ≡ Ok tt → b ≡ word_bytes Standard v
      → on_fine (clear_rule (length v) (words16 b)) (Ok (numbers_of (range_of f) (words16 b)))
      ≡ numbers_shown Standard a v
  unfolding numbers_shown
  numbers-standard e bytes = rw (read, bytes, length-first a v, e)

  -- the crate's words are no longer than the longest packet
  crate-words : b ≡ word_bytes Crate v → block_length v ≤ 262144
      → take longest b ≡ take (block_length v - 14) (drop 12 v)
  crate-words bytes h = ap (take longest) bytes ∙ short longest (block_length v - 14) (drop 12 v) (omega arith)

  pub numbers-crate : check_of Crate (Spans (Chunks a)) v ≡ Ok tt → b ≡ word_bytes Crate v → block_length v ≤ 262144
      → Ok (crate_numbers_from f.end f.thinning f.begin (words16 (take longest b))) ≡ numbers_shown Crate a v
  unfolding numbers_shown
  numbers-crate e bytes h =
      ap (λ (l : List ℕ). Ok (crate_numbers_from f.end f.thinning f.begin (words16 l))) (crate-words bytes h)
      ∙ (rw (read, e))

-- 10, or 7 by the length
pub numbers-short : (a : Rle) (v : List ℕ) (x : Refusal) → length_check a v ≡ Err x
    → numbers_shown Standard a v ≡ Err x
unfolding numbers_shown
numbers-short a v x e = rw (length-first a v, e)

module _ (r : Reading) (a : Rle) (v : List ℕ) where
  words-read : (r : Reading) → words_in r v ≡ words16 (word_bytes r v)
  words-read Standard = refl
  words-read Crate = refl

  pub words-fine : (b : List ℕ) → b ≡ word_bytes r v → check_of r (Spans (Chunks a)) v ≡ Ok tt
      → Ok (words16 b) ≡ words_shown r a v
  unfolding words_shown
  words-fine b bytes e = rw (bytes, e, words-read r)

  module _ (x : Refusal) (e : check_of r (Spans (Chunks a)) v ≡ Err x) where
    pub numbers-unfit : numbers_shown r a v ≡ Err x
    unfolding numbers_shown
    numbers-unfit = rw e

    pub words-unfit : words_shown r a v ≡ Err x
    unfolding words_shown
    words-unfit = rw e

module _ (r : Reading) (s : List ℕ) (k : ℕ) (a : Rle) where
  module _ (at n : ℕ) (e : locate r s k ≡ Ok (at, n)) where
    pub numbers-asked : numbers_shown r a (part s at n) ≡ numbers_asked r s k a
    unfolding numbers_asked
    numbers-asked = rw e

    pub words-asked : words_shown r a (part s at n) ≡ words_asked r s k a
    unfolding words_asked
    words-asked = rw e

  module _ (x : Refusal) (e : locate r s k ≡ Err x) where
    pub numbers-missing : numbers_asked r s k a ≡ Err x
    unfolding numbers_asked
    numbers-missing = rw e

    pub words-missing : words_asked r s k a ≡ Err x
    unfolding words_asked
    words-missing = rw e
