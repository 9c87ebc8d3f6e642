-- Where a word's list ends in the crate reading (RULES, "Crate reading").
--     stop_at       the place of a word's first one whose number fails
use Rattle.std.specs.Prelude.{ℕ, suc, Bool, cond, not, ◌&&◌, List, [], ◌∷◌, ◌==◌}
use Rattle.def_standard.specs.Chunks.{values_in}
use Rattle.def_crate.specs.Sequence.{passes, sequence_of}

-- place q has value one, and its number fails
abbrev pub fails_at : ℕ → ℕ → ℕ → ℕ → ℕ → Bool
fails_at start end t q value = value == 1 && not (passes start end (sequence_of q start t))

-- the first such place among values whose first place is q; the place past them where there is none
unfoldable pub stop_from : ℕ → ℕ → ℕ → ℕ → List ℕ → ℕ
stop_from start end t q [] = q
stop_from start end t q (v ∷ vs) = cond (fails_at start end t q v) q (stop_from start end t (suc q) vs)

abbrev pub stop_at : ℕ → ℕ → ℕ → ℕ → ℕ
stop_at start end t w = stop_from start end t 0 (values_in w)
