-- `xr::Xr::parse` meets its contract.
use Rattle.laws.proofs.Passing.{handed-on}
use mathlib.Core.Path.{sym, ◌∙◌}
use Rattle.xr.specs.Parsed.{parsed_of}
use Rattle.xr.proofs.Xr.parse.Goals as goal

pub returns : goal.returns
unfolding parsed_of
returns c = rw (sym c.count.ensures ∙ c.in_ok-blocks.was, c.u32_from_be_bytes.ensures)

pub returns-in_err-blocks : goal.returns-in_err-blocks
unfolding parsed_of
returns-in_err-blocks c =
    rw (handed-on _ _ c.from_residual.ensures) (rw (sym c.count.ensures ∙ c.in_err-blocks.was))
