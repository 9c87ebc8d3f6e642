-- The laws of a block's checks, fields and time: each way in which they end, with what leads there as premises.
use Rattle.std.specs.Prelude.{Ok, Err}
use Prim.Native.Nat.{ℕ, ◌+◌, ◌-◌, ◌%◌, ◌≤◌, ◌<◌}
use mathlib.Core.Path.{◌≡◌}
use mathlib.Core.Bool.{Bool, true, false, not}
use mathlib.Core.List.{List}
use lib.ListN.{length}
use lib.Dec.{ltb, leb, eqb}
use borrow.Author.Tests.{le-leb, lt-leb, eq-eqb, ne_eqb}
use Rattle.laws.proofs.Tests.{either}
use Rattle.def_refusals.specs.declared.Refusal.{Refusal}
use Rattle.def_refusals.specs.declared.Refusal.TheVariants.{OtherType, NoFields}
use Rattle.def_refusals.specs.Answers.{then_check}
use Rattle.def_wire.specs.declared.Reading.{Reading}
use Rattle.def_wire.specs.declared.Reading.TheVariants.{Standard, Crate}
use Rattle.def_wire.specs.declared.Rle.{Rle}
use Rattle.def_wire.specs.declared.Ranged.{Ranged}
use Rattle.def_wire.specs.declared.Ranged.TheVariants.{Chunks, Times}
use Rattle.def_wire.specs.declared.Kind.{Kind}
use Rattle.def_wire.specs.declared.Kind.TheVariants.{Spans, Clock, Echoes, Statistics}
use Rattle.def_wire.specs.Packet.{locate, part}
use Rattle.def_wire.specs.Block.{type_of, block_length, rle_type, receipt_type, clock_type, echo_type, kind_type, rule}
use Rattle.def_wire.specs.Block.{summary_type, words_at, standard_rule, lost_run, has}
use Rattle.def_wire.specs.Block.{clear_rule, crate_rule, fitness, check_of}
use Rattle.def_wire.specs.Block.{is_cut, fields_at, fields_of, time_at, time_of}
use Rattle.def_questions.specs.Packets.{fields_asked, time_asked}
use Rattle.utils.proofs.ClearLaws.{fit-times, fit-clock, fit-echoes, fit-statistics}
use Rattle.block.specs.Lengths.{length_check}

-- 10
pub check-other : (r : Reading) (k : Kind) (v : List ℕ) → (type_of v ≡ kind_type k → ⊥)
    → Err (OtherType (type_of v)) ≡ check_of r k v
unfolding check_of
check-other r k v n = rw (ne_eqb _ _ n)

-- the same of types 1 and 2 by the length alone
module _ (a : Rle) (v : List ℕ) where
  pub length-other : (type_of v ≡ rle_type a → ⊥) → Err (OtherType (type_of v)) ≡ length_check a v
  unfolding length_check
  length-other n = rw (ne_eqb _ _ n)

  pub length-rule : type_of v ≡ rle_type a → rule (leb 12 (length v)) 12 (length v) ≡ length_check a v
  unfolding length_check standard_rule
  length-rule e = rw (eq-eqb _ _ e)

  -- the whole check: that, and then the words
  pub length-first : check_of Standard (Spans (Chunks a)) v
      ≡ then_check (length_check a v) (clear_rule (length v) (words_at v))
  unfolding check_of fitness length_check
  length-first = either (eqb (type_of v) (rle_type a)) (λ t. rw t) (λ f. rw f)

-- then 7, by the words, where the length is good
pub words-short : (v : List ℕ) → length v < 12
    → rule false 12 (length v) ≡ then_check (rule (leb 12 (length v)) 12 (length v)) (clear_rule (length v) (words_at v))
words-short v h = rw (lt-leb 12 (length v) h)

pub words-rule : (v : List ℕ) (lost : Bool) → 12 ≤ length v → lost ≡ has lost_run (words_at v)
    → rule (not lost) 12 (length v)
    ≡ then_check (rule (leb 12 (length v)) 12 (length v)) (clear_rule (length v) (words_at v))
unfolding clear_rule
words-rule v lost h e = rw (le-leb 12 (length v) h, e)

-- then 7: the length rules of both readings, kind by kind
module _ (r : Reading) (v : List ℕ) where
  module _ (a : Rle) (e : type_of v ≡ rle_type a) where
    pub chunks-standard : r ≡ Standard
        → then_check (rule (leb 12 (length v)) 12 (length v)) (clear_rule (length v) (words_at v))
        ≡ check_of r (Spans (Chunks a)) v
    unfolding check_of fitness standard_rule
    chunks-standard q = rw (eq-eqb _ _ e, q)

    pub chunks-crate : (l : ℕ) → l ≡ block_length v → r ≡ Crate → rule (leb 12 l) 12 l ≡ check_of r (Spans (Chunks a)) v
    unfolding check_of fitness crate_rule
    chunks-crate l h q = rw (eq-eqb _ _ e, q, h)

  module _ (e : type_of v ≡ receipt_type) where
    pub times-standard : r ≡ Standard → rule (leb 12 (length v)) 12 (length v) ≡ check_of r (Spans Times) v
    unfolding check_of standard_rule
    times-standard q = rw (eq-eqb _ _ e, q, fit-times v)

    pub times-crate : r ≡ Crate → (Ok tt) ≡ check_of r (Spans Times) v
    unfolding check_of fitness crate_rule
    times-crate q = rw (eq-eqb _ _ e, q)

  module _ (e : type_of v ≡ clock_type) where
    pub clock-standard : r ≡ Standard → rule (eqb (length v) 12) 12 (length v) ≡ check_of r Clock v
    unfolding check_of standard_rule
    clock-standard q = rw (eq-eqb _ _ e, q, fit-clock v)

    pub clock-crate : r ≡ Crate → rule (leb 12 (length v)) 12 (length v) ≡ check_of r Clock v
    unfolding check_of fitness crate_rule
    clock-crate q = rw (eq-eqb _ _ e, q)

  module _ (e : type_of v ≡ echo_type) where
    pub echoes-standard : (o : ℕ) → o ≡ length v - 4 → r ≡ Standard
        → rule (eqb (o % 12) 0) (length v + (12 - o % 12) % 12) (length v) ≡ check_of r Echoes v
    unfolding check_of standard_rule
    echoes-standard o h q = rw (eq-eqb _ _ e, q, fit-echoes v, h)

    pub echoes-short : length v < 16 → r ≡ Crate → rule false 16 (length v) ≡ check_of r Echoes v
    unfolding check_of fitness crate_rule
    echoes-short h q = rw (eq-eqb _ _ e, q, lt-leb _ _ h)

    pub echoes-crate : (l : ℕ) → l ≡ block_length v → 16 ≤ length v → r ≡ Crate
        → rule (eqb (l % 16) 0) (l + l % 16) (length v) ≡ check_of r Echoes v
    unfolding check_of fitness crate_rule
    echoes-crate l h k q = rw (eq-eqb _ _ e, q, h, le-leb _ _ k)

  module _ (e : type_of v ≡ summary_type) where
    pub statistics-standard : r ≡ Standard → rule (eqb (length v) 40) 40 (length v) ≡ check_of r Statistics v
    unfolding check_of standard_rule
    statistics-standard q = rw (eq-eqb _ _ e, q, fit-statistics v)

    pub statistics-crate : r ≡ Crate → Err (OtherType (type_of v)) ≡ check_of r Statistics v
    unfolding check_of fitness crate_rule
    statistics-crate q = rw (e, q)

module _ (r : Reading) (g : Ranged) (v : List ℕ) where
  pub fields-shown : check_of r (Spans g) v ≡ Ok tt → is_cut r g (length v) ≡ false → Ok (fields_at v) ≡ fields_of r g v
  unfolding fields_of
  fields-shown e k = rw (e, k)

  pub fields-cut : check_of r (Spans g) v ≡ Ok tt → is_cut r g (length v) ≡ true
      → Err (NoFields (length v)) ≡ fields_of r g v
  unfolding fields_of
  fields-cut e k = rw (e, k)

  pub fields-unfit : (x : Refusal) → check_of r (Spans g) v ≡ Err x → Err x ≡ fields_of r g v
  unfolding fields_of
  fields-unfit x e = rw e

module _ (r : Reading) (g : Ranged) (left : ℕ) where
  pub cut-standard : r ≡ Standard → false ≡ is_cut r g left
  cut-standard e = rw e

  pub cut-chunks : (a : Rle) → r ≡ Crate → g ≡ Chunks a → false ≡ is_cut r g left
  cut-chunks a e k = rw (e, k)

  pub cut-times : r ≡ Crate → g ≡ Times → ltb left 12 ≡ is_cut r g left
  cut-times e k = rw (e, k)

pub time-shown : (r : Reading) (v : List ℕ) → check_of r Clock v ≡ Ok tt → Ok (time_at v) ≡ time_of r v
unfolding time_of
time-shown r v e = rw e

pub time-unfit : (r : Reading) (v : List ℕ) (x : Refusal) → check_of r Clock v ≡ Err x → Err x ≡ time_of r v
unfolding time_of
time-unfit r v x e = rw e

-- the same questions of a packet: where the block is located, and where it is not
module _ (r : Reading) (s : List ℕ) (k : ℕ) where
  module _ (at n : ℕ) (e : locate r s k ≡ Ok (at, n)) where
    pub fields-asked : (g : Ranged) → fields_of r g (part s at n) ≡ fields_asked r s k g
    unfolding fields_asked
    fields-asked g = rw e

    pub time-asked : time_of r (part s at n) ≡ time_asked r s k
    unfolding time_asked
    time-asked = rw e

  module _ (x : Refusal) (e : locate r s k ≡ Err x) where
    pub fields-missing : (g : Ranged) → Err x ≡ fields_asked r s k g
    unfolding fields_asked
    fields-missing g = rw e

    pub time-missing : Err x ≡ time_asked r s k
    unfolding time_asked
    time-missing = rw e
