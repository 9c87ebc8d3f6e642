-- A flat answer's contract, from the contract of the call that it copies. Assumes nothing.
use Rattle.std.specs.Prelude.{Err}
use Prim.Native.Nat.{ℕ}
use mathlib.Core.Path.{◌≡◌, ap, ◌∙◌}
use mathlib.Core.List.{List}
use borrow.Author.Tests.{eq-eqb, ne_eqb}
use Rattle.def_cursor.specs.declared.Stretch.{Stretch}
use Rattle.def_refusals.specs.declared.Refusal.{Refusal}
use Rattle.def_refusals.specs.Answers.{Or, Listed}
use Rattle.laws.proofs.Answering.{turned-away}
use Rattle.def_wire.specs.declared.Reading.TheVariants.{Standard, Crate}
use Rattle.def_standard.specs.declared.Chunk.TheVariants.{Null, Skip, Run, Vector}
use Rattle.def_standard.specs.declared.Receipt.{Receipt}
use Rattle.def_standard.specs.declared.Echo.{Echo}
use Rattle.def_questions.specs.Questions.{ListedPairs, ListedEntries}
use Rattle.def_cursor.specs.declared.Cursor.{Cursor}
use Rattle.def_cursor.specs.Cursor.{StretchedBy}
use Rattle.states.specs.declared.Portions.{Portions}
use Rattle.states.specs.declared.Followed.{Followed}
use Rattle.states.specs.Call.{Following}
use Rattle.flat.specs.declared.Flat.{Flat}
use Rattle.flat.specs.declared.FlatFollowed.{FlatFollowed}
use Rattle.flat.specs.declared.FlatStretch.{FlatStretch}
use Rattle.flat.specs.Flat.{reading_of, chunk_asked, flat_refusal, flat_of, flat_stretch, flat_followed}
use Rattle.flat.specs.Lists.{FlatListed, FlatPairs, FlatEntries, FlatStretched, FlatFollowing}

pub reading-standard : (r : ℕ) → r ≡ 0 → Standard ≡ reading_of r
unfolding reading_of
reading-standard r e = simp (eq-eqb _ _ e)

pub reading-crate : (r : ℕ) → (r ≡ 0 → ⊥) → Crate ≡ reading_of r
unfolding reading_of
reading-crate r n = simp (ne_eqb _ _ n)

pub kind-null : (k value : ℕ) → k ≡ 0 → Null ≡ chunk_asked k value
unfolding chunk_asked
kind-null k value e = simp (eq-eqb _ _ e)

module _ (k value : ℕ) (n : k ≡ 0 → ⊥) where
  pub kind-skip : k ≡ 1 → Skip value ≡ chunk_asked k value
  unfolding chunk_asked
  kind-skip e = simp (ne_eqb _ _ n, eq-eqb _ _ e)

  pub kind-run : (k ≡ 1 → ⊥) → k ≡ 2 → Run value ≡ chunk_asked k value
  unfolding chunk_asked
  kind-run m e = simp (ne_eqb _ _ n, ne_eqb _ _ m, eq-eqb _ _ e)

  pub kind-vector : (k ≡ 1 → ⊥) → (k ≡ 2 → ⊥) → Vector value ≡ chunk_asked k value
  unfolding chunk_asked
  kind-vector m o = simp (ne_eqb _ _ n, ne_eqb _ _ m, ne_eqb _ _ o)

-- a listing call, asked of what the question comes to, its answer made flat
pub flat-listed : {whole asked : Or (List ℕ)} {out out' : List ℕ} {a : Or ℕ} {f : Flat} → asked ≡ whole
    → Listed asked out a out' → f ≡ flat_of a
    → FlatListed whole out f out'
flat-listed e l h = rw (← e) (record { answer = h ∙ ap flat_of l.answer; filled = l.filled })

pub flat-pairs : {whole asked : Or (List Receipt)} {ns ts ns' ts' : List ℕ} {a : Or ℕ} {f : Flat} → asked ≡ whole
    → ListedPairs asked ns ts a ns' ts' → f ≡ flat_of a → FlatPairs whole ns ts f ns' ts'
flat-pairs e l h = rw (← e) (record { answer = h ∙ ap flat_of l.answer; numbers = l.numbers; times = l.times })

pub flat-entries : {whole asked : Or (List Echo)} {ss ls ds ss' ls' ds' : List ℕ} {a : Or ℕ} {f : Flat}
    → asked ≡ whole
    → ListedEntries asked ss ls ds a ss' ls' ds' → f ≡ flat_of a → FlatEntries whole ss ls ds f ss' ls' ds'
flat-entries e l h = rw (← e) (record {
  answer = h ∙ ap flat_of l.answer;
  ssrcs = l.ssrcs;
  lasts = l.lasts;
  delays = l.delays;
})

-- a listing call that is turned away before it lists
pub flat-turned-away : {whole asked : Or (List ℕ)} {out : List ℕ} {f : Flat} (x : Refusal) → asked ≡ whole
    → asked ≡ Err x → f ≡ flat_refusal x
    → FlatListed whole out f out
unfolding flat_of
flat-turned-away {whole} {asked} {out} {f} x e w h = flat-listed e (turned-away asked out x w) h

-- a cursor's call, its answer made flat
pub flat-stretched : {s : List ℕ} {k t : ℕ} {c : Cursor} {budget : ℕ} {out out' : List ℕ} {a : Or Stretch}
    {f : FlatStretch}
    → StretchedBy s k t c budget out a out' → f ≡ flat_stretch a → FlatStretched s k t c budget out f out'
flat-stretched l h = record { answer = h ∙ ap flat_stretch l.answer; filled = l.filled }

pub flat-following : {st : Portions} {x t u v w t' u' v' w' : List ℕ} {r : Followed} {a : FlatFollowed}
    → Following st x t u v w r t' u' v' w' → a ≡ flat_followed r → FlatFollowing st x t u v w a t' u' v' w'
flat-following f e =
    record {
      answer = e ∙ ap flat_followed f.answer;
      tags = f.tags;
      numbers = f.numbers;
      values = f.values;
      sums = f.sums;
    }
