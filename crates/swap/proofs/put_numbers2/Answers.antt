-- `swap::put_numbers2` meets its contract: eight bytes are loaded, turned round, and stored. Assumes nothing.
use Rattle.std.proofs.Common.{List, ℕ, sym, ap, ◌∙◌}
use Rattle.std.proofs.lemmas.List.Edits.{sets}
use Rattle.little_endian.proofs.SwapLaws.{numbers2_bytes}
use Rattle.swap.specs.Eights.{turned4}
use Rattle.swap.proofs.put_numbers2.Goals as goal

pub returns : goal.returns
returns c = let a = c.args in
    c.store8.ensures
    ∙ ap (λ (y : List ℕ). sets a.out.now a.n (turned4 y)) c.eight_at-x.ensures
    ∙ ap (sets a.out.now a.n) (sym (numbers2_bytes a.body.now (λ i. (c.type_inv.body i).fits) a.k))
