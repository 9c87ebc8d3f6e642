-- `jobs::body_at` meets its contract, also past the end.
use mathlib.Core.Path.{◌∙◌}
use Rattle.jobs.proofs.PlaceLaws.{body-cut, body-start}
use Rattle.jobs.proofs.body_at.Goals as goal

pub returns : goal.returns
returns c = let a = c.args in record {
  result_value = c.part.ensures.result_value ∙ body-cut a.list.now a.at c.min-from.result c.min-from.ensures c.wide32.result
      (c.wide32.ensures.0 ∙ c.u32_from_le_bytes.ensures);
  ref_ptr_value = c.part.ensures.ref_ptr_value ∙ body-start a.list.now a.at c.min-from.result c.min-from.ensures a.list.ref_ptr;
}
