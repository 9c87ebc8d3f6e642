-- Types 1 and 2: what the two readings list of words differs exactly where `misled_words` says so. Where begin is on the
-- grid the standard's list is a prefix of the crate's; where it is off it the crate's numbers are all off the grid and
-- the standard's all on it, so the two are the same only where both are empty. Assumes nothing.
--     Gridded                       the numbers of a list, by where they lie on the grid
--     numbers-grid, pairs-grid      the standard's lie on it
--     lists-differ                  the two lists differ where `misled_words` says so
use Prim.Native.Nat.{ℕ, suc, ◌+◌, ◌%◌, ◌^◌, ◌≤◌, ◌<◌}
use mathlib.Core.Path.{◌≡◌, refl, sym, ap, ◌∙◌}
use mathlib.Core.Bool.{Bool, true, false, not}
use mathlib.Core.List.{List, [], ◌∷◌, ◌++◌, map, append-nil}
use native.Mathlib.Nat.{mod-lt}
use native.Mathlib.Omega.{arith}
use lib.Dec.{eqb, lit<}
use borrow.Author.Tests.{eqb-false, ne_eqb, ltb-false}
use Rattle.laws.proofs.Tests.{either, true≢false}
use Rattle.def_wire.specs.declared.Fields.{Fields}
use Rattle.def_standard.specs.declared.Range.{Range}
use Rattle.def_standard.specs.declared.Receipt.{Receipt}
use Rattle.def_standard.specs.Chunks.{covers_of}
use Rattle.def_standard.specs.Listing.{list_from}
use Rattle.def_standard.specs.Range.{size_of, range_of, inside, number_of}
use Rattle.def_standard.specs.Standard.{values_of, is_listed, numbers_from, numbers_of, receipt, pairs_from, pairs_of}
use Rattle.def_crate.specs.Sequence.{sequence_of, passes, moved_by}
use Rattle.def_crate.specs.Crate.{Try, while_from, ones_in, try_at, tries_from, crate_numbers_from}
use Rattle.def_jobs.specs.Shown.{same_row}
use Rattle.range.specs.Grid.{on_grid, from_begin}
use Rattle.range.specs.Inside.{inside_count}
use Rattle.range.proofs.InsideLaws.{inside-count, inside-count-le, is-outside}
use Rattle.range.proofs.SequenceLaws.{moved-sequence}
use Rattle.range.proofs.NumberLaws.{number_of-zero, number_of-on}
use Rattle.range.proofs.GridLaws.{number-grid, listed-grid, inside-fewer, range-on-grid}
use Rattle.ones.proofs.NumbersLaws.{numbers-outside}
use Rattle.misled.specs.Misled.{goes_on, misled_words}
use Rattle.misled.proofs.MisledLaws.{shared-on, shared-off}
use Rattle.written.proofs.Lists.{Each}
use Rattle.old_readers.proofs.Same.{same_self, same_more}
use Rattle.old_readers.proofs.GoesOnLaws.{is_some, Leads, words-lead}

-- ---- a property of all that is listed

each-listed : {A B : Type 0} (P : B → Type 0) (test : ℕ → A → Bool) (make : ℕ → A → B)
    → ((q : ℕ) (x : A) → P (make q x)) → (p : ℕ) (xs : List A) → Each P (list_from test make p xs)
each-listed P test make h p [] = tt
each-listed P test make h p (x ∷ xs) =
    let rest = each-listed P test make h (suc p) xs in
    either (test p x) (λ t. rw t (h p x, rest)) (λ f. rw f rest)

each-while : {A B : Type 0} (P : B → Type 0) (test : ℕ → A → Bool) (make : ℕ → A → B) (p : ℕ) (xs : List A)
    → Each (λ (x : A). (q : ℕ) → P (make q x)) xs → Each P (while_from test make p xs)
each-while P test make p [] e = tt
each-while P test make p (x ∷ xs) e =
    either (test p x) (λ t. rw t (e.0 p, each-while P test make (suc p) xs e.1)) (λ f. rw f tt)

each_map : {A B : Type 0} (P : B → Type 0) (make : A → B) → ((x : A) → P (make x)) → (xs : List A)
    → Each P (map make xs)
each_map P make h [] = tt
each_map P make h (x ∷ xs) = (h x, each_map P make h xs)

each_both : {A : Type 0} (P : A → Type 0) (xs ys : List A) → Each P xs → Each P ys → Each P (xs ++ ys)
each_both P [] ys e k = k
each_both P (x ∷ xs) ys e k = (e.0, each_both P xs ys e.1 k)

-- ---- where numbers lie on the grid

abbrev Gridded : ℕ → ℕ → List ℕ → Type 0
Gridded t r l = Each (λ (x : ℕ). x % 2 ^ t ≡ r) l

-- a place's number lies where the start does
sequence-grid : (q start t : ℕ) → start < 65536 → t ≤ 16 → sequence_of q start t % 2 ^ t ≡ start % 2 ^ t
sequence-grid q start t h k =
    let g : Range = record { begin = start; size = 0; thinning = t } in
    ap (λ (x : ℕ). x % 2 ^ t) (rw (number_of-zero g h) at (number_of-on g 0 q)) ∙ number-grid g (0 + q) k

module _ (t r : ℕ) (thin : t ≤ 16) where
  tries-grid : (start : ℕ) (ws : List ℕ) → start < 65536 → start % 2 ^ t ≡ r
      → Each (λ (x : Try). ℕ → x.number % 2 ^ t ≡ r) (tries_from t start ws)
  unfolding tries_from
  tries-grid start [] h e = tt
  tries-grid start (w ∷ ws) h e =
      let next = moved_by (covers_of w) t start in
      let on : next % 2 ^ t ≡ r =
      ap (λ (x : ℕ). x % 2 ^ t) (moved-sequence (covers_of w) t start) ∙ sequence-grid (covers_of w) start t h thin ∙ e in
      each_both _ (map (try_at t start) (ones_in w)) (tries_from t next ws)
      (each_map _ (try_at t start) (λ q _. sequence-grid q start t h thin ∙ e) (ones_in w))
      (tries-grid next ws (mod-lt _ (lit< tt)) on)

  crate-grid : (end start : ℕ) (ws : List ℕ) → start < 65536 → start % 2 ^ t ≡ r
      → Gridded t r (crate_numbers_from end t start ws)
  unfolding crate_numbers_from
  crate-grid end start ws h e =
      each-while (λ (x : ℕ). x % 2 ^ t ≡ r) (λ (_ : ℕ) (x : Try). passes x.start end x.number)
      (λ (_ : ℕ) (x : Try). x.number) 0 (tries_from t start ws) (tries-grid start ws h e)

module _ (f : Fields) (thin : f.thinning ≤ 16) where
  pub numbers-grid : (ws : List ℕ) → Each (λ (x : ℕ). x % 2 ^ f.thinning ≡ 0) (numbers_of (range_of f) ws)
  unfolding numbers_from
  numbers-grid ws =
      each-listed (λ (x : ℕ). x % 2 ^ f.thinning ≡ 0) (is_listed (range_of f)) (λ q (_ : ℕ). number_of (range_of f) q)
      (λ q _. listed-grid f q thin) 0 (values_of ws)

  pub pairs-grid : (ts : List ℕ) → Each (λ (x : Receipt). x.number % 2 ^ f.thinning ≡ 0) (pairs_of (range_of f) ts)
  unfolding pairs_from
  pairs-grid ts =
      each-listed (λ (x : Receipt). x.number % 2 ^ f.thinning ≡ 0) (λ q (_ : ℕ). inside (range_of f) q)
      (λ q time. receipt (number_of (range_of f) q) time) (λ q _. listed-grid f q thin) 0 ts

-- ---- nothing listed

nothing-fewer : (g h : Range) → inside_count g ≤ inside_count h → (p : ℕ) (vs : List ℕ)
    → list_from (is_listed h) (λ q value. number_of h q) p vs ≡ []
    → list_from (is_listed g) (λ q value. number_of g q) p vs ≡ []
nothing-fewer g h few p [] e = refl
nothing-fewer g h few p (v ∷ vs) e =
    either (eqb v 1)
    (λ one. either (inside h p)
    (λ near. true≢false (sym (ap is_some (rw (one, near) at e))))
    (λ out. let far : inside_count h ≤ p = ltb-false _ _ (sym (inside-count h p) ∙ out) in
    rw (one, is-outside g p (omega arith)) (nothing-fewer g h few (suc p) vs (rw (one, out) at e))))
    (λ zero. rw zero (nothing-fewer g h few (suc p) vs (rw zero at e)))

nothing-before : (l more : List ℕ) → l ++ more ≡ [] → l ≡ []
nothing-before [] more e = refl
nothing-before (x ∷ l) more e = true≢false (sym (ap is_some e))

-- ---- the rows

rows-differ : (l more : List ℕ) → not (same_row (l ++ more) l) ≡ is_some more
rows-differ l [] = rw (append-nil l, same_self l)
rows-differ l (x ∷ more) = rw (same_more l x more)

rows_apart : (t r : ℕ) (a b : List ℕ) → Gridded t r a → Gridded t 0 b → (r ≡ 0 → ⊥) → (a ≡ [] → b ≡ [])
    → not (same_row a b) ≡ is_some a
rows_apart t r [] [] p q n e = refl
rows_apart t r [] (y ∷ b) p q n e = true≢false (sym (ap is_some (e refl)))
rows_apart t r (x ∷ a) [] p q n e = refl
rows_apart t r (x ∷ a) (y ∷ b) p q n e =
    let away : x ≡ y → ⊥ = λ z. n (sym p.0 ∙ ap (λ (m : ℕ). m % 2 ^ t) z ∙ q.0) in rw (ne_eqb _ _ away)

-- ---- the two lists

module _ (f : Fields) (begin-fits : f.begin < 65536) (end_fits : f.end < 65536) (thin : f.thinning ≤ 16)
    (ws : List ℕ) where
  abbrev in_crate : List ℕ
  in_crate = crate_numbers_from f.end f.thinning f.begin ws

  -- the range from begin on leads the crate's list
  wide-leads : Leads (numbers_of (from_begin f) ws) in_crate (goes_on (from_begin f) f.end 0 ws)
  wide-leads = words-lead f.begin f.end f.thinning (size_of f.begin f.end) begin-fits end_fits
      (omega arith) ws

  on-grid : on_grid f ≡ true → not (same_row in_crate (numbers_of (range_of f) ws)) ≡ misled_words f ws
  on-grid on =
      let l = wide-leads in
      rw (shared-on f on, range-on-grid f begin-fits on)
      (rw (← l.split) (rows-differ (numbers_of (from_begin f) ws) l.more) ∙ l.goes)

  off-grid : on_grid f ≡ false → not (same_row in_crate (numbers_of (range_of f) ws)) ≡ misled_words f ws
  unfolding numbers_from
  off-grid off =
      let none : Range = record { begin = f.begin; size = 0; thinning = f.thinning } in
      let r = f.begin % 2 ^ f.thinning in
      let l = words-lead f.begin f.end f.thinning 0 begin-fits end_fits (omega arith) ws in
      let nothing : numbers_of none ws ≡ [] = numbers-outside none 0 ws (omega (arith, inside-count-le none)) in
      let all : l.more ≡ in_crate = rw nothing at l.split in
      let empty : in_crate ≡ [] → numbers_of (range_of f) ws ≡ [] = λ e.
      nothing-fewer (range_of f) (from_begin f) (inside-fewer f) 0 (values_of ws)
      (nothing-before (numbers_of (from_begin f) ws) wide-leads.more (wide-leads.split ∙ e)) in
      rw (shared-off f off)
      (rows_apart f.thinning r in_crate (numbers_of (range_of f) ws)
      (crate-grid f.thinning r thin f.end f.begin ws begin-fits refl) (numbers-grid f thin ws)
      (eqb-false _ _ off) empty
      ∙ ap is_some (sym all) ∙ l.goes)

  pub lists-differ : not (same_row (crate_numbers_from f.end f.thinning f.begin ws) (numbers_of (range_of f) ws))
      ≡ misled_words f ws
  lists-differ =
      either (on_grid f) on-grid off-grid
