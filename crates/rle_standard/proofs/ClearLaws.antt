-- What is asked of words that must be clear of runs of no length, and then listed. Assumes nothing.
use Rattle.std.specs.Prelude.{Ok, Err}
use Prim.Native.Nat.{ℕ}
use mathlib.Core.Path.{◌≡◌}
use mathlib.Core.Bool.{true, false}
use mathlib.Core.List.{List}
use Rattle.def_refusals.specs.declared.Refusal.TheVariants.{BadBlockLength}
use Rattle.def_refusals.specs.Answers.{Or, on_fine}
use Rattle.def_wire.specs.Block.{lost_run, has, clear_rule}
use Rattle.utils.proofs.ClearLaws.{clear-fine, clear-lost}

module _ (l : ℕ) (ws ns : List ℕ) where
  abbrev pub whole : Or (List ℕ)
  whole = on_fine (clear_rule l ws) (Ok ns)

  pub whole-clear : has lost_run ws ≡ false → whole ≡ Ok ns
  whole-clear e = rw (clear-fine l ws e)

  pub whole-lost : has lost_run ws ≡ true → whole ≡ Err (BadBlockLength 12 l)
  whole-lost e = rw (clear-lost l ws e)
