-- A list was filled into lent memory, or refused there: what its line is then.
use Rattle.std.specs.Prelude.{Ok, Err}
use Prim.Native.Nat.{ℕ, ◌≤◌, min}
use mathlib.Core.Path.{◌≡◌, refl, sym, ap, ◌∙◌}
use mathlib.Core.List.{List, [], ◌∷◌, ◌++◌, map}
use native.Mathlib.Omega.{arith}
use lib.ListN.{length, take, drop, length-map}
use lib.Seq.{take-append_seam}
use lib.Dec.{leb}
use borrow.Author.Tests.{le-leb, leb-true}
use Rattle.laws.proofs.Tests.{by-test}
use Rattle.def_refusals.specs.declared.Refusal.{Refusal}
use Rattle.def_refusals.specs.declared.Refusal.TheVariants.{NoRoom}
use Rattle.def_refusals.specs.Answers.{Or, each, answer_of, filled_of, Listed}
use Rattle.def_standard.specs.declared.Receipt.{Receipt}
use Rattle.def_standard.specs.declared.Echo.{Echo}
use Rattle.def_questions.specs.Questions.{ListedPairs, ListedEntries, least3}
use Rattle.def_text.specs.Numerals.{ascii, two_in_turn, three_in_turn}
use Rattle.def_dump.specs.Lines.{refused_line, list_line, numbers_line, pairs_line, entries_line, pair_numbers, entry_numbers}
use Rattle.def_dump.specs.Dump.{list_or, most_shown}

-- what was listed: the items themselves, which fit, and as many as the answer says
pub record Got {A : Type 0} (whole : Or (List A)) (room n : ℕ) : Type 0 where
  pub items : List A
  pub is : whole ≡ Ok items
  pub count : n ≡ length items
  pub fits : length items ≤ room

module _ {A : Type 0} where
  pub got : (whole : Or (List A)) (room n : ℕ) → Ok n ≡ answer_of whole room → Got whole room n
  unfolding answer_of
  got (Ok l) room n e =
      by-test (leb (length l) room)
      (λ t d. record { items = l; is = refl; count = cc; fits = leb-true _ _ t })
      (λ t d. absurd (let z : ◌≡◌ {A = ℕ} 0 1 = cc in omega arith)) (sym e)
  got (Err x) room n e = absurd (let z : ◌≡◌ {A = ℕ} 0 1 = cc in omega arith)

  -- a list that was listed into no more room than items are shown
  pub line_of : (line : List A → List ℕ) (whole : Or (List A)) (room n : ℕ) (g : Got whole room n) → room ≤ most_shown
      → line g.items ≡ list_or line whole
  unfolding list_or
  line_of line whole room n g h =
      let k : length g.items ≤ most_shown = omega (arith, g.fits) in
      rw (g.is, le-leb _ _ k)

  -- one that was refused in as much room as items are shown
  refused-of : (line : List A → List ℕ) (whole : Or (List A)) (x : Refusal) → Err x ≡ answer_of whole most_shown
      → refused_line x ≡ list_or line whole
  unfolding answer_of list_or
  refused-of line (Ok l) x e =
      by-test (leb (length l) most_shown)
      (λ t d. absurd (let z : ◌≡◌ {A = ℕ} 0 1 = cc in omega arith))
      (λ t d. rw t (ap refused_line (let r : x ≡ NoRoom (length l) most_shown = cc in r))) (sym e)
  refused-of line (Err y) x e = ap refused_line (let r : x ≡ y = cc in r)

-- what stands at the front of a list that was filled
front : (m : List ℕ) (room n : ℕ) (out out' : List ℕ) → n ≡ length m → length m ≤ room
    → out' ≡ filled_of (Ok m) room out → take n out' ≡ m
unfolding filled_of
front m room n out out' e h f =
    let k : out' ≡ m ++ drop (length m) out = f ∙ (rw (le-leb _ _ h)) in
    rw (k, e) (take-append_seam m (drop (length m) out))

-- the same of one part of each item
part-front : {A : Type 0} (f : A → ℕ) (whole : Or (List A)) (room n : ℕ) (g : Got whole room n) (out out' : List ℕ)
    → out' ≡ filled_of (each f whole) room out → take n out' ≡ map f g.items
part-front f whole room n g out out' e =
    let k : length (map f g.items) ≡ length g.items = length-map g.items f in
    front (map f g.items) room n out out' (g.count ∙ sym k) (omega (arith, g.fits))
    (e ∙ ap (λ (w : Or _). filled_of (each f w) room out) g.is)

module _ {whole : Or (List ℕ)} {out out' : List ℕ} {r : Or ℕ} where
  pub numbers-shown : {n : ℕ} → r ≡ Ok n → Listed whole out r out' → length out ≤ most_shown
      → numbers_line (take n out') ≡ list_or numbers_line whole
  numbers-shown {n} e d h =
      let g = got whole (length out) n (sym e ∙ d.answer) in
      ap numbers_line (front g.items (length out) n out out' g.count g.fits
      (d.filled ∙ ap (λ (w : Or (List ℕ)). filled_of w (length out) out) g.is))
      ∙ line_of numbers_line whole (length out) n g h

  pub numbers-not-shown : {x : Refusal} → r ≡ Err x → Listed whole out r out' → length out ≡ most_shown
      → refused_line x ≡ list_or numbers_line whole
  numbers-not-shown {x} e d h = refused-of numbers_line whole x (sym e ∙ d.answer ∙ ap (answer_of whole) h)

pub two-parts : (l : List Receipt) → two_in_turn (map (λ x. x.number) l) (map (λ x. x.time.0) l) ≡ pair_numbers l
unfolding two_in_turn pair_numbers
two-parts [] = refl
two-parts (x ∷ l) = ap (λ (m : List ℕ). x.number ∷ x.time.0 ∷ m) (two-parts l)

pub three-parts : (l : List Echo)
    → three_in_turn (map (λ x. x.ssrc) l) (map (λ x. x.last.0) l) (map (λ x. x.delay.0) l) ≡ entry_numbers l
unfolding three_in_turn entry_numbers
three-parts [] = refl
three-parts (x ∷ l) = ap (λ (m : List ℕ). x.ssrc ∷ x.last.0 ∷ x.delay.0 ∷ m) (three-parts l)

module _ {whole : Or (List Receipt)} {ns ts ns' ts' : List ℕ} {r : Or ℕ} where
  pub pairs-shown : {n : ℕ} → r ≡ Ok n → ListedPairs whole ns ts r ns' ts' → min (length ns) (length ts) ≤ most_shown
      → list_line (ascii "pairs") (two_in_turn (take n ns') (take n ts')) ≡ list_or pairs_line whole
  pairs-shown {n} e d h =
      let room = min (length ns) (length ts) in
      let g = got whole room n (sym e ∙ d.answer) in
      ap (list_line (ascii "pairs"))
      ((rw (
        part-front (λ x. x.number) whole room n g ns ns' d.numbers,
        part-front (λ x. x.time.0) whole room n g ts ts' d.times,
      )) ∙ two-parts g.items)
      ∙ line_of pairs_line whole room n g h

  pub pairs-not-shown : {x : Refusal} → r ≡ Err x → ListedPairs whole ns ts r ns' ts' → min (length ns) (length ts)
      ≡ most_shown
      → refused_line x ≡ list_or pairs_line whole
  pairs-not-shown {x} e d h = refused-of pairs_line whole x (sym e ∙ d.answer ∙ ap (answer_of whole) h)

module _ {whole : Or (List Echo)} {ss ls ds ss' ls' ds' : List ℕ} {r : Or ℕ} where
  pub entries-shown : {n : ℕ} → r ≡ Ok n → ListedEntries whole ss ls ds r ss' ls' ds' → least3 ss ls ds ≤ most_shown
      → list_line (ascii "entries") (three_in_turn (take n ss') (take n ls') (take n ds')) ≡ list_or entries_line whole
  entries-shown {n} e d h =
      let room = least3 ss ls ds in
      let g = got whole room n (sym e ∙ d.answer) in
      ap (list_line (ascii "entries"))
      ((rw (
        part-front (λ x. x.ssrc) whole room n g ss ss' d.ssrcs,
        part-front (λ x. x.last.0) whole room n g ls ls' d.lasts,
        part-front (λ x. x.delay.0) whole room n g ds ds' d.delays,
      )) ∙ three-parts g.items)
      ∙ line_of entries_line whole room n g h

  pub entries-not-shown : {x : Refusal} → r ≡ Err x → ListedEntries whole ss ls ds r ss' ls' ds' → least3 ss ls ds
      ≡ most_shown
      → refused_line x ≡ list_or entries_line whole
  entries-not-shown {x} e d h = refused-of entries_line whole x (sym e ∙ d.answer ∙ ap (answer_of whole) h)
