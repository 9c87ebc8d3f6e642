-- The lists of a block, of its view v in a reading: 10, then 7, then the list (RULES, "Refusal numbers"; 11 is
-- added by def_refusals' `Listed`).
-- Types 1 and 2 differ in the asked type alone.
use Rattle.std.specs.Prelude.{ℕ, min, ◌≡◌, List, length, Ok}
use Rattle.def_refusals.specs.Answers.{Or, on_fine, each, answer_of, filled_of}
use Rattle.def_wire.specs.declared.Reading.{Reading}
use Rattle.def_wire.specs.declared.Reading.TheVariants.{Standard, Crate}
use Rattle.def_wire.specs.declared.Rle.{Rle}
use Rattle.def_wire.specs.declared.Ranged.TheVariants.{Chunks, Times}
use Rattle.def_wire.specs.declared.Kind.TheVariants.{Spans, Echoes}
use Rattle.def_wire.specs.Block.{check_of}
use Rattle.def_standard.specs.declared.Receipt.{Receipt}
use Rattle.def_standard.specs.declared.Echo.{Echo}
use Rattle.def_standard.specs.Standard.{standard_words, standard_numbers, standard_pairs, entries_of}
use Rattle.def_crate.specs.Crate.{crate_words, crate_numbers, crate_pairs}

abbrev pub words_in : Reading → List ℕ → List ℕ
words_in Standard v = standard_words v
words_in Crate v = crate_words v

abbrev pub numbers_in : Reading → List ℕ → List ℕ
numbers_in Standard v = standard_numbers v
numbers_in Crate v = crate_numbers v

abbrev pub pairs_in : Reading → List ℕ → List Receipt
pairs_in Standard v = standard_pairs v
pairs_in Crate v = crate_pairs v

unfoldable pub words_shown : Reading → Rle → List ℕ → Or (List ℕ)
words_shown r a v = on_fine (check_of r (Spans (Chunks a)) v) (Ok (words_in r v))

unfoldable pub numbers_shown : Reading → Rle → List ℕ → Or (List ℕ)
numbers_shown r a v = on_fine (check_of r (Spans (Chunks a)) v) (Ok (numbers_in r v))

unfoldable pub pairs_shown : Reading → List ℕ → Or (List Receipt)
pairs_shown r v = on_fine (check_of r (Spans Times) v) (Ok (pairs_in r v))

unfoldable pub entries_shown : Reading → List ℕ → Or (List Echo)
entries_shown r v = on_fine (check_of r Echoes v) (Ok (entries_of v))

-- the contract of a call that lists pairs into two lent lists; the shorter one's room counts
pub record ListedPairs (whole : Or (List Receipt)) (ns ts : List ℕ) (r : Or ℕ) (ns' ts' : List ℕ) : Type 0 where
  pub answer : r ≡ answer_of whole (min (length ns) (length ts))
  pub numbers : ns' ≡ filled_of (each (λ x. x.number) whole) (min (length ns) (length ts)) ns
  pub times : ts' ≡ filled_of (each (λ x. x.time.0) whole) (min (length ns) (length ts)) ts

abbrev pub least3 : List ℕ → List ℕ → List ℕ → ℕ
least3 a b c = min (min (length a) (length b)) (length c)

-- the contract of a call that lists entries into three lent lists
pub record ListedEntries (whole : Or (List Echo)) (ss ls ds : List ℕ) (r : Or ℕ) (ss' ls' ds' : List ℕ) : Type 0 where
  pub answer : r ≡ answer_of whole (least3 ss ls ds)
  pub ssrcs : ss' ≡ filled_of (each (λ x. x.ssrc) whole) (least3 ss ls ds) ss
  pub lasts : ls' ≡ filled_of (each (λ x. x.last.0) whole) (least3 ss ls ds) ls
  pub delays : ds' ≡ filled_of (each (λ x. x.delay.0) whole) (least3 ss ls ds) ds
