-- One word's places (RFC 3611, 4.1).
--     numbers_in       the numbers that the standard reading lists of values whose first position is p
--     word_numbers     those of one word
--     rest_of          the word that has a word's places from one on: a shorter run, or a vector that ends in zeros
use Rattle.std.specs.Prelude.{ℕ, ◌+◌, ◌-◌, ◌*◌, ◌%◌, ◌^◌, min, cond, List, nat_lt}
use Rattle.def_standard.specs.declared.Range.{Range}
use Rattle.def_standard.specs.Chunks.{values_in}
use Rattle.def_standard.specs.Listing.{list_from}
use Rattle.def_standard.specs.Range.{number_of}
use Rattle.def_standard.specs.Standard.{is_listed}

unfoldable pub numbers_in : Range → ℕ → List ℕ → List ℕ
numbers_in g p values = list_from (is_listed g) (λ q value. number_of g q) p values

abbrev pub word_numbers : Range → ℕ → ℕ → List ℕ
word_numbers g p w = numbers_in g p (values_in w)

unfoldable pub rest_of : ℕ → ℕ → ℕ
rest_of w q = cond (nat_lt w 32768) (w - min q (w % 16384)) (32768 + w * 2 ^ min q 15 % 32768)
