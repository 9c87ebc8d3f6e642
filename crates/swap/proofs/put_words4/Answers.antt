-- `swap::put_words4` meets its contract: eight bytes are loaded, turned round, and stored. Assumes nothing.
use Rattle.std.proofs.Common.{List, ℕ, sym, ap, ◌∙◌}
use Rattle.std.proofs.lemmas.List.Edits.{sets}
use Rattle.little_endian.proofs.SwapLaws.{words4_bytes}
use Rattle.swap.specs.Eights.{turned2}
use Rattle.swap.proofs.put_words4.Goals as goal

pub returns : goal.returns
returns c = let a = c.args in
    c.store8.ensures
    ∙ ap (λ (y : List ℕ). sets a.out.now a.n (turned2 y)) c.eight_at-x.ensures
    ∙ ap (sets a.out.now a.n) (sym (words4_bytes a.body.now (λ i. (c.type_inv.body i).fits) a.k))
