-- The crate reading's lists, each of everything left from the block on, v (RULES, "Crate reading").
--     tries_from     the numbers that are tried, in order, each with the start that it is tested from
--     while_from     those before the first that fails
use Rattle.std.specs.Prelude.{ℕ, suc, ◌-◌, Bool, cond, List, [], ◌∷◌, ◌++◌, map, take, drop, eqb}
use Rattle.def_wire.specs.declared.Fields.{Fields}
use Rattle.def_wire.specs.Bytes.{words16, words32}
use Rattle.def_wire.specs.Block.{fields_at, block_length}
use Rattle.def_standard.specs.declared.Receipt.{Receipt}
use Rattle.def_standard.specs.Chunks.{covers_of, values_in}
use Rattle.def_standard.specs.Listing.{list_from}
use Rattle.def_standard.specs.Standard.{receipt}
use Rattle.def_crate.specs.Sequence.{sequence_of, passes, moved_by}

-- items at positions p, p + 1, .., up to the first that fails a test
module _ {A B : Type 0} (test : ℕ → A → Bool) (make : ℕ → A → B) where
  abbrev pub while_from : ℕ → List A → List B
  while_from p [] = []
  while_from p (x ∷ xs) = cond (test p x) (make p x ∷ while_from (suc p) xs) []

-- a number that is tried, and the start that it is tested from
pub record Try : Type 0 where
  pub number : ℕ
  pub start : ℕ

-- the places of value one of a word; the others are not tried
unfoldable pub ones_in : ℕ → List ℕ
ones_in w = list_from (λ q value. eqb value 1) (λ q value. q) 0 (values_in w)

abbrev pub try_at : ℕ → ℕ → ℕ → Try
try_at t start q = record { number = sequence_of q start t; start = start }

-- the start moves on after each word
unfoldable pub tries_from : ℕ → ℕ → List ℕ → List Try
tries_from t start [] = []
tries_from t start (w ∷ ws) = map (try_at t start) (ones_in w) ++ tries_from t (moved_by (covers_of w) t start) ws

-- the numbers of words, from a start on
unfoldable pub crate_numbers_from : ℕ → ℕ → ℕ → List ℕ → List ℕ
crate_numbers_from end t start ws = while_from (λ _ x. passes x.start end x.number) (λ _ x. x.number) 0
    (tries_from t start ws)

-- time p is tried as number p from begin
unfoldable pub crate_pairs_from : Fields → ℕ → List ℕ → List Receipt
crate_pairs_from f p times =
    while_from (λ q _. passes f.begin f.end (sequence_of q f.begin f.thinning))
    (λ q time. receipt (sequence_of q f.begin f.thinning) time) p times

-- the words of the block but its last, which is never read
abbrev pub crate_words : List ℕ → List ℕ
crate_words v = words16 (take (block_length v - 14) (drop 12 v))

abbrev pub crate_numbers : List ℕ → List ℕ
crate_numbers v = crate_numbers_from (fields_at v).end (fields_at v).thinning (fields_at v).begin (crate_words v)

-- the times up to the packet's end
abbrev pub crate_pairs : List ℕ → List Receipt
crate_pairs v = crate_pairs_from (fields_at v) 0 (words32 (drop 12 v))
