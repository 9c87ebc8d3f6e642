-- A record judged.
--     judged_size    how many bytes a good record's block has, 0 of a bad record
--     has_words      a record of types 1 and 2 that is good: fields, and words of which none is a run of no length
--     Fielded       a body of types 1 to 3 that is good: fields, and whole items of so many bytes
use Rattle.std.specs.Prelude.{ℕ, ◌-◌, ◌%◌, ◌≤◌, ◌≡◌, Bool, cond, List, length, Some}
use Rattle.def_wire.specs.declared.Rle.TheVariants.{Loss}
use Rattle.def_wire.specs.declared.Ranged.TheVariants.{Chunks}
use Rattle.def_wire.specs.declared.Kind.TheVariants.{Spans}
use Rattle.def_jobs.specs.declared.Layout.{Layout}
use Rattle.def_jobs.specs.Jobs.{Job, le16, is_body, is_block_job}
use Rattle.def_jobs.specs.Layout.{block_bytes}

abbrev pub judged_size : Layout → Job → ℕ
judged_size layout j = cond (is_block_job j) (length (block_bytes layout j)) 0

-- types 1 and 2 ask the same of a body
abbrev pub has_words : Job → Bool
has_words j = is_body (Some (Spans (Chunks Loss))) j

pub record Fielded (body : List ℕ) (bytes : ℕ) : Type 0 where
  pub ten : 10 ≤ length body
  pub thin : le16 body 8 ≤ 15
  pub items : (length body - 10) % bytes ≡ 0
