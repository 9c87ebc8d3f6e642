-- Facts of def_jobs' Writing: 14 of bytes, stated of any job list: a packet of 262,144 bytes takes long to compute.
-- RULES, "Refusal numbers" and "Job lists and writing".
use Rattle.std.specs.Prelude.{◌-◌, ◌≡◌, true, false, List, length, ltb, Ok, Err}
use Rattle.def_refusals.specs.declared.Refusal.TheVariants.{TooMany}
use Rattle.def_jobs.specs.declared.Layout.{Layout}
use Rattle.def_jobs.specs.declared.Layout.TheVariants.{Plain, Careful}
use Rattle.def_jobs.specs.Jobs.{Job, jobs_fault}
use Rattle.def_jobs.specs.Layout.{layout_of}
use Rattle.def_jobs.specs.Writing.{misleading_from, write_fault}

-- of good records with at most 31 blocks
pub record OfAnyList : Type 0 where
  -- over 262,144 bytes in the layout asked: 14 with that packet's length
  pub over :
      (layout : Layout) (js : List Job) → jobs_fault 0 js ≡ Ok tt → ltb 31 (length js - 1) ≡ false
      → ltb 262144 (length (layout_of layout js)) ≡ true
      → write_fault layout js ≡ Err (TooMany (length (layout_of layout js)) 262144)
  -- 262,144 bytes or fewer: plain writing is not refused
  pub plain-within :
      (js : List Job) → jobs_fault 0 js ≡ Ok tt → ltb 31 (length js - 1) ≡ false
      → ltb 262144 (length (layout_of Plain js)) ≡ false → write_fault Plain js ≡ Ok tt
  -- and careful writing by 15 alone, asked of each block of the careful layout, from block 0 on
  pub careful-within :
      (js : List Job) → jobs_fault 0 js ≡ Ok tt → ltb 31 (length js - 1) ≡ false
      → ltb 262144 (length (layout_of Careful js)) ≡ false
      → write_fault Careful js ≡ misleading_from (layout_of Careful js) 0 (length js - 1)
