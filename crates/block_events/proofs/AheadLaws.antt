-- Events on their way into four lists, stored one by one. Assumes nothing.
--     Ahead whole n t₀ u₀ v₀ w₀ rest i t u v w     to store the rest from i on comes to storing the whole from n on
use Rattle.std.proofs.Common.{◌≡◌, ℕ, ◌+◌, List, [], ◌∷◌, refl}
use Rattle.def_portions.specs.declared.Event.{Event}
use Rattle.def_portions.specs.Lists.{tag_part, number_part, value_part, put_at, put_sums}
use Rattle.event_lists.specs.Laid.{Laid}
use Rattle.event_lists.proofs.LaidLaws.{laid_none, laid_one, and_then}

pub record Ahead (whole : List Event) (n : ℕ) (t₀ u₀ v₀ w₀ : List ℕ) (rest : List Event) (i : ℕ) (t u v w : List ℕ)
    : Type 0 where
  pub onward : {t' u' v' w' : List ℕ} {n' : ℕ} → Laid rest i t u v w t' u' v' w' n'
      → Laid whole n t₀ u₀ v₀ w₀ t' u' v' w' n'

-- nothing is stored yet
pub start : {whole : List Event} {n : ℕ} {t u v w : List ℕ} → Ahead whole n t u v w whole n t u v w
start = record { onward = λ l. l }

module _ {whole : List Event} {n : ℕ} {t₀ u₀ v₀ w₀ : List ℕ} where
  -- one event was stored
  pub put : (e : Event) {rest rest' : List Event} {i : ℕ} {t u v w t1 u1 v1 w1 : List ℕ} → rest ≡ e ∷ rest'
      → t1 ≡ put_at (tag_part e) i t → u1 ≡ put_at (number_part e) i u → v1 ≡ put_at (value_part e) i v
      → w1 ≡ put_sums e i w → Ahead whole n t₀ u₀ v₀ w₀ rest i t u v w
      → Ahead whole n t₀ u₀ v₀ w₀ rest' (i + 1) t1 u1 v1 w1
  put e k p q r s a = let b = rw k at a in
      record { onward = λ l. b.onward (and_then (laid_one {e = e} {f = e} refl p q r s) l) }

  -- nothing is to come
  pub ended : {rest : List Event} {i : ℕ} {t u v w : List ℕ} → rest ≡ [] → Ahead whole n t₀ u₀ v₀ w₀ rest i t u v w
      → Laid whole n t₀ u₀ v₀ w₀ t u v w i
  ended k a = let b = rw k at a in b.onward laid_none
