-- `xr::view` meets its contract: block k's view, that part of the caller's packet itself.
use Rattle.xr.proofs.WalkLaws.{located-within, view-bytes, view-start, view-none, view-none-start}
use native.Mathlib.Omega.{arith}
use mathlib.Core.Path.{sym, ◌∙◌}
use Rattle.xr.proofs.view.Goals as goal

pub returns-in-Ok : goal.returns-in-Ok
returns-in-Ok c = let i = c.args in
    let e = sym c.locate.ensures ∙ c.in-Ok.is in
    let w = located-within i.r i.s.now i.k c.in-Ok.at c.in-Ok.n e in record {
      result_value = c.part.ensures.result_value ∙ view-bytes i.s.now c.in-Ok.at c.in-Ok.n _ e;
      ref_ptr_value = c.part.ensures.ref_ptr_value ∙ view-start i.s.ref_ptr i.s.now c.in-Ok.at c.in-Ok.n _ e
          (omega (arith, w.end));
    }

pub returns-in-Err : goal.returns-in-Err
returns-in-Err c = let i = c.args in
    let e = sym c.locate.ensures ∙ c.in-Err.is in record { result_value = c.part-in-Err.ensures.result_value ∙ view-none i.s.now _ c.in-Err.field-0 e; ref_ptr_value = c.part-in-Err.ensures.ref_ptr_value ∙ view-none-start i.s.ref_ptr i.s.now _ c.in-Err.field-0 e }
