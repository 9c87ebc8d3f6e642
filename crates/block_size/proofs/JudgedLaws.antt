-- A record told apart and judged at once: how many bytes its block has, 0 of a bad record. Assumes nothing.
--     judged-good, judged-bad     the size by the record's kind, and whether its body is good
--     judged-words, ..            that of kinds 1 to 3 and 5, whose bodies vary in length
--     is-judged                   a record is good where the size is not 0
use Rattle.std.specs.Prelude.{Option, Some}
use Prim.Native.Nat.{ℕ, ◌+◌, ◌*◌, ◌%◌}
use mathlib.Core.Path.{◌≡◌, sym, ◌∙◌}
use mathlib.Core.Bool.{true, false}
use native.Mathlib.Omega.{arith}
use lib.ListN.{length}
use lib.Dec.{ltb}
use borrow.Author.Tests.{lt-ltb, le-ltb, eq-eqb}
use Rattle.def_wire.specs.declared.Kind.{Kind}
use Rattle.laws.proofs.Tests.{either}
use Rattle.def_wire.specs.declared.Rle.{Rle}
use Rattle.def_wire.specs.declared.Ranged.TheVariants.{Chunks, Times}
use Rattle.def_wire.specs.declared.Kind.TheVariants.{Spans, Echoes}
use Rattle.def_wire.specs.Block.{kind_of}
use Rattle.def_jobs.specs.declared.Layout.{Layout}
use Rattle.def_jobs.specs.Jobs.{Job, job_words, has_fields, is_body, is_block_job}
use Rattle.def_jobs.specs.Layout.{zeros_behind, bytes_as, block_bytes}
use Rattle.block_size.specs.Judged.{judged_size, has_words}
use Rattle.block_size.proofs.JudgeLaws.{fields-are, good-words, block-as}
use Rattle.block_size.proofs.LayoutLaws.{as-words, as-times, as-echoes, length-block, block-least}

module _ (layout : Layout) (j : Job) where
  pub judged-good : {k : Option Kind} → kind_of j.kind ≡ k → is_body k j ≡ true → {n : ℕ} → n ≡ length (bytes_as k layout j)
      → n ≡ judged_size layout j
  judged-good e g h = rw (block-as j e ∙ g) (h ∙ sym (length-block layout j e))

  pub judged-bad : {k : Option Kind} → kind_of j.kind ≡ k → is_body k j ≡ false → 0 ≡ judged_size layout j
  judged-bad e g = rw (block-as j e ∙ g)

  pub judged-words : (a : Rle) → kind_of j.kind ≡ Some (Spans (Chunks a)) → has_words j ≡ true → (z : ℕ)
      → z ≡ zeros_behind layout (job_words j) → length j.body + 2 + z * 2 ≡ judged_size layout j
  judged-words a e f z h =
      let w = good-words j f in
      judged-good e f (omega (arith, w.ten, w.items, h, as-words layout j a))

  pub judged-times : kind_of j.kind ≡ Some (Spans Times) → has_fields j 4 ≡ true
      → length j.body + 2 ≡ judged_size layout j
  judged-times e f =
      let w = fields-are j 4 f in
      judged-good e f (omega (arith, w.ten, w.items, as-times layout j))

  pub judged-echoes : kind_of j.kind ≡ Some Echoes → length j.body % 12 ≡ 0
      → length j.body + 4 ≡ judged_size layout j
  judged-echoes e l = judged-good e (eq-eqb _ _ l) (omega (arith, l, as-echoes layout j))

  pub is-judged : (n : ℕ) → n ≡ judged_size layout j → ltb 0 n ≡ is_block_job j
  is-judged n e =
      either (is_block_job j)
      (λ g. let k : n ≡ length (block_bytes layout j) = rw g at e in
      lt-ltb 0 n (omega (arith, block-least layout j g)) ∙ sym g)
      (λ g. let k : n ≡ 0 = rw g at e in le-ltb 0 n (omega arith) ∙ sym g)
