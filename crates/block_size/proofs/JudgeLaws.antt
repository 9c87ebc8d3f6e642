-- When a record asks for a block and is good, with the tests that lead there as premises. Assumes nothing.
--     fields-are           what `has_fields` says of a body
--     words-short, ..      the tests of a body of words in turn
--     sums-other, ..       the tests of a summary's body in turn
--     good-words           what they say of it
--     block-as             `is_block_job` by the record's kind
use Rattle.std.specs.Prelude.{Option}
use Prim.Native.Nat.{ℕ}
use mathlib.Core.Path.{◌≡◌, ap, ◌∙◌}
use mathlib.Core.Bool.{Bool, true, false, not}
use mathlib.Core.List.{List}
use native.Mathlib.Omega.{arith}
use lib.ListN.{length, take, drop, length-drop}
use lib.Seq.{take_all}
use lib.Dec.{leb}
use borrow.Author.Tests.{leb-true, eqb-true, eq-eqb, ne_eqb}
use Rattle.def_wire.specs.declared.Kind.{Kind}
use Rattle.laws.proofs.Tests.{and-true}
use Rattle.def_wire.specs.Block.{lost_run, has, kind_of}
use Rattle.def_wire.specs.Bytes.{byte_at}
use Rattle.def_jobs.specs.Jobs.{Job, le16, low16, job_flags, has_fields, is_flags, has_sums, is_body, is_block_job}
use Rattle.block_size.specs.Judged.{Fielded, has_words}

module _ (j : Job) where
  pub fields-are : (bytes : ℕ) → has_fields j bytes ≡ true → Fielded j.body bytes
  fields-are bytes e =
      let p = and-true (leb 10 (length j.body)) _ e in
      let q = and-true (leb (le16 j.body 8) 15) _ p.1 in
      record { ten = leb-true _ _ p.0; thin = leb-true _ _ q.0; items = eqb-true _ _ q.1 }

  pub words-short : has_fields j 2 ≡ false → false ≡ has_words j
  words-short e = rw e

  pub words-clear : (behind : List ℕ) (lost : Bool) → has_fields j 2 ≡ true
      → behind ≡ take (length j.body) (drop 10 j.body) → lost ≡ has lost_run (low16 behind) → not lost ≡ has_words j
  words-clear behind lost e b f =
      let all = take_all (length j.body) (drop 10 j.body) (omega (arith, length-drop 10 j.body)) in
      ap not (f ∙ ap (λ (l : List ℕ). has lost_run (low16 l)) (b ∙ all)) ∙ (rw e)

  pub sums-other : (length j.body ≡ 38 → ⊥) → false ≡ has_sums j
  sums-other h = rw (ne_eqb _ _ h)

  module _ (h : length j.body ≡ 38) where
    pub sums-second : (byte_at j.body 1 ≡ 0 → ⊥) → false ≡ has_sums j
    sums-second n = rw (eq-eqb _ _ h, ne_eqb _ _ n)

    pub sums-flags : byte_at j.body 1 ≡ 0 → is_flags (job_flags j) ≡ has_sums j
    sums-flags z = rw (eq-eqb _ _ h, eq-eqb _ _ z)

  pub good-words : has_words j ≡ true → Fielded j.body 2
  good-words e = fields-are 2 (and-true (has_fields j 2) _ e).0

  pub block-as : {k : Option Kind} → kind_of j.kind ≡ k → is_block_job j ≡ is_body k j
  unfolding is_block_job
  block-as e = ap (λ (k : Option Kind). is_body k j) e
