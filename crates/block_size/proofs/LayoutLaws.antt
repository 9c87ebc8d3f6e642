-- How long a block is. Assumes nothing.
--     as-words, ..            a block's length by its kind, where it has more than numbers of a fixed count
--     length-block            it is that of the record's kind
--     block-fits              a good record's block is no longer than the record
--     block-least             and has at least its four header bytes
use Rattle.std.specs.Prelude.{Option, Some, None}
use Prim.Native.Nat.{ℕ, ◌+◌, ◌*◌, ◌-◌, ◌/◌, ◌≤◌}
use mathlib.Core.Path.{◌≡◌, refl, ap}
use mathlib.Core.Bool.{true}
use native.Mathlib.Omega.{arith}
use lib.ListN.{length, replicate, length-append, length-replicate}
use lib.Dec.{leb, eqb}
use borrow.Author.Tests.{leb-true, eqb-true}
use Rattle.def_wire.specs.declared.Kind.{Kind}
use Rattle.laws.proofs.Tests.{and-true, true≢false}
use Rattle.def_wire.specs.Bytes.{two, four}
use Rattle.def_wire.specs.declared.Rle.{Rle}
use Rattle.def_wire.specs.declared.Ranged.TheVariants.{Chunks, Times}
use Rattle.def_wire.specs.declared.Kind.TheVariants.{Spans, Clock, Echoes, Statistics}
use Rattle.def_wire.specs.Block.{kind_of}
use Rattle.def_jobs.specs.declared.Layout.{Layout}
use Rattle.def_jobs.specs.Jobs.{Job, low32, job_words, job_times, has_fields, is_body, is_block_job}
use Rattle.def_jobs.specs.Layout.{bytes_of, zeros_behind, bytes_as, block_bytes}
use Rattle.little_endian.proofs.LowLaws.{length-low32, length-bytes_of}
use Rattle.block_size.proofs.ZerosLaws.{length-words, length-times, zeros-most}

-- so many bytes a block has by its kind
module _ (layout : Layout) (j : Job) where
  pub as-words : (a : Rle) → length (bytes_as (Some (Spans (Chunks a))) layout j)
      ≡ 12 + (length j.body - 10) / 2 * 2 + zeros_behind layout (job_words j) * 2
  as-words a =
      omega (
        arith,
        length-append (bytes_of two (job_words j)) (replicate (2 * zeros_behind layout (job_words j)) 0),
        length-bytes_of two 2 (λ x. refl) (job_words j),
        length-replicate {A = ℕ} (2 * zeros_behind layout (job_words j)) 0,
        length-words j,
      )

  pub as-times : length (bytes_as (Some (Spans Times)) layout j) ≡ 12 + (length j.body - 10) / 4 * 4
  as-times = omega (arith, length-bytes_of four 4 (λ x. refl) (job_times j), length-times j)

  pub as-echoes : length (bytes_as (Some Echoes) layout j) ≡ 4 + length j.body / 4 * 4
  as-echoes = omega (arith, length-bytes_of four 4 (λ x. refl) (low32 j.body), length-low32 j.body)

  pub length-block : {k : Option Kind} → kind_of j.kind ≡ k → length (block_bytes layout j) ≡ length (bytes_as k layout j)
  unfolding block_bytes
  length-block e = ap (λ (k : Option Kind). length (bytes_as k layout j)) e

body-fits : (k : Option Kind) (layout : Layout) (j : Job) → is_body k j ≡ true
    → length (bytes_as k layout j) ≤ 6 + length j.body
body-fits (Some (Spans (Chunks a))) layout j e =
    let f = (and-true (has_fields j 2) _ e).0 in
    let h : 10 ≤ length j.body = leb-true _ _ (and-true (leb 10 (length j.body)) _ f).0 in
    omega (arith, as-words layout j a, zeros-most (job_words j) layout)
body-fits (Some (Spans Times)) layout j e =
    let h : 10 ≤ length j.body = leb-true _ _ (and-true (leb 10 (length j.body)) _ e).0 in
    omega (arith, as-times layout j)
body-fits (Some Clock) layout j e =
    let h : length j.body ≡ 8 = eqb-true _ _ e in omega arith
body-fits (Some Echoes) layout j e = omega (arith, as-echoes layout j)
body-fits (Some Statistics) layout j e =
    let h : length j.body ≡ 38 = eqb-true _ _ (and-true (eqb (length j.body) 38) _ e).0 in omega arith
body-fits None layout j e = true≢false e

pub block-fits : (layout : Layout) (j : Job) → is_block_job j ≡ true → length (block_bytes layout j) ≤ 6 + length j.body
unfolding is_block_job block_bytes
block-fits layout j e = body-fits (kind_of j.kind) layout j e

body-least : (k : Option Kind) (layout : Layout) (j : Job) → is_body k j ≡ true → 4 ≤ length (bytes_as k layout j)
body-least (Some (Spans (Chunks a))) layout j e = omega (arith, as-words layout j a)
body-least (Some (Spans Times)) layout j e = omega (arith, as-times layout j)
body-least (Some Clock) layout j e = omega arith
body-least (Some Echoes) layout j e = omega (arith, as-echoes layout j)
body-least (Some Statistics) layout j e = omega arith
body-least None layout j e = true≢false e

pub block-least : (layout : Layout) (j : Job) → is_block_job j ≡ true → 4 ≤ length (block_bytes layout j)
unfolding is_block_job block_bytes
block-least layout j e = body-least (kind_of j.kind) layout j e
