-- What a word shows. Assumes nothing.
use Prim.Native.Nat.{ℕ}
use mathlib.Core.Path.{◌≡◌, sym, ◌∙◌}
use mathlib.Core.Bool.{not}
use mathlib.Core.List.{[], ◌∷◌}
use lib.Dec.{eqb}
use borrow.Author.Tests.{eqb-true, eqb-false}
use Rattle.laws.proofs.Tests.{either}
use Rattle.utils.proofs.ClearLaws.{clear-fine, clear-lost, has_here, has-behind, has-nil}
use Rattle.def_wire.specs.Block.{rule, lost_run, clear_rule}

-- a word alone, and its block's length, both known by equations: whether it is a run of no length
pub word-rule : (length n w h : ℕ) → n ≡ length → h ≡ w → rule (not (eqb h lost_run)) 12 n ≡ clear_rule length (w ∷ [])
word-rule length n w h e f =
    rw (e, f)
    (either (eqb w lost_run)
    (λ t. rw t (sym (clear-lost length (w ∷ []) (has_here lost_run w [] (eqb-true _ _ t)))))
    (λ f. rw f (sym (clear-fine length (w ∷ []) (has-behind lost_run w [] (eqb-false _ _ f) ∙ has-nil lost_run)))))
