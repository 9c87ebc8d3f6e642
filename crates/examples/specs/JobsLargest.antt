-- Facts of def_jobs' Writing: the largest packet, of one type 1 block. RULES, "Refusal numbers" (14).
use Rattle.std.specs.Prelude.{ℕ, zero, suc, ◌≡◌, List, [], ◌∷◌, ◌++◌, Ok, Err}
use Rattle.def_refusals.specs.declared.Refusal.TheVariants.{TooMany, BadRecord}
use Rattle.def_jobs.specs.declared.Layout.TheVariants.{Plain, Careful}
use Rattle.def_jobs.specs.Jobs.{Job}
use Rattle.def_jobs.specs.Writing.{write_fault}
use Rattle.examples.specs.Jobs.{of-kind}
use Rattle.examples.specs.Rows.{le2, le4, body}

-- n words 257, as bytes of a record
unfoldable pub ones : ℕ → List ℕ
ones zero = []
ones (suc n) = 1 ∷ 1 ∷ ones n

-- the header record, and a type 1 block with those words
abbrev pub one_block : ℕ → List Job
one_block n = of-kind 0 (le4 1 ++ le2 0) ∷ of-kind 1 (body 0 0 0 (ones n)) ∷ []

-- n words 257 and behind them a run of ones of no length
abbrev pub lost-behind : ℕ → List Job
lost-behind n = of-kind 0 (le4 1 ++ le2 0) ∷ of-kind 1 (body 0 0 0 (ones n ++ (0 ∷ 64 ∷ []))) ∷ []

-- 131,062 words with a last word that is not 0: plain writes, careful is 14; with one word more plain is 14 too
pub record Words131062 : Type 0 where
  pub plain : write_fault Plain (one_block 131062) ≡ Ok tt
  pub careful : write_fault Careful (one_block 131062) ≡ Err (TooMany 262148 262144)
  pub one_more : write_fault Plain (one_block 131063) ≡ Err (TooMany 262148 262144)
  -- the last of 131,062 words, and the 131,063rd: 12 before 14
  pub lost-run :
      (write_fault Plain (lost-behind 131061) ≡ Err (BadRecord 1))
      × (write_fault Careful (lost-behind 131061) ≡ Err (BadRecord 1))
      × (write_fault Plain (lost-behind 131062) ≡ Err (BadRecord 1))
