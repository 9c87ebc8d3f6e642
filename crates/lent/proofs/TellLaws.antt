-- What is printed of a call that listed into memory with the pattern in it: def_probe's line alone. The call's
-- contract says that what stands behind the items, and everything after a refusal, is untouched; so `spoilt` is never
-- printed.
--     list_done .. stretch-stuck     what is printed, by the call's answer
--     listed, listed-pairs, listed-entries, stretched     it is the line that def_probe defines
use Rattle.std.specs.Prelude.{Option, Ok, Err, Some, None}
use Prim.Native.Nat.{ℕ, min}
use mathlib.Core.Path.{◌≡◌, refl, ap, ◌∙◌}
use mathlib.Core.Bool.{Bool, true, false}
use mathlib.Core.List.{List, ◌++◌, map, append-nil}
use native.Mathlib.Omega.{arith}
use lib.ListN.{length, take, drop, length-map}
use lib.Seq.{take-append_seam, take_at, drop_at}
use lib.Dec.{leb, eqb}
use Rattle.def_wire.specs.declared.Rle.{Rle}
use Rattle.laws.proofs.Tests.{either}
use Rattle.def_refusals.specs.declared.Refusal.{Refusal}
use Rattle.def_refusals.specs.Answers.{Or, each, answer_of, filled_of, Listed}
use Rattle.def_wire.specs.declared.Reading.TheVariants.{Standard}
use Rattle.def_wire.specs.Packet.{view_of}
use Rattle.def_wire.specs.Block.{fields_at, rle_of}
use Rattle.def_standard.specs.declared.Receipt.{Receipt}
use Rattle.def_standard.specs.declared.Echo.{Echo}
use Rattle.def_standard.specs.Range.{range_of}
use Rattle.def_standard.specs.Standard.{standard_words}
use Rattle.def_questions.specs.Questions.{ListedPairs, ListedEntries, least3}
use Rattle.def_questions.specs.ByNumber.{on_rle, not_served}
use Rattle.def_cursor.specs.declared.Cursor.{Cursor}
use Rattle.def_cursor.specs.declared.Stretch.{Stretch}
use Rattle.def_cursor.specs.Cursor.{advance_to, left_to, advance_fault, advance_of, stretch_filled, stretch_of, listed_by}
use Rattle.def_cursor.specs.Cursor.{on_view_advanced, on_view_filled, advance_by, filled_by, StretchedBy}
use Rattle.def_text.specs.Numerals.{ascii, two_in_turn, three_in_turn}
use Rattle.def_dump.specs.Lines.{refusal_line, list_line, numbers_line, pairs_line, entries_line, taken_line}
use Rattle.def_probe.specs.Requests.{line_in, stretch_told, stretch_on, on_view_text, stretch_in}
use Rattle.dump.proofs.ListLaws.{two-parts, three-parts}
use Rattle.lent.specs.Pattern.{mark16, mark32, pattern, stands}
use Rattle.lent.specs.Telling.{unless_whole, whole_from, whole_pairs, whole_entries}
use Rattle.lent.specs.Telling.{tell_list, tell_pairs, tell_entries, tell_stretch}
use Rattle.lent.proofs.PatternLaws.{stands-behind, length-pattern}

-- what is printed, by the call's answer a
module _ (mark : ℕ → ℕ) (line : List ℕ → List ℕ) (a : Or ℕ) (l : List ℕ) (w : Bool) where
  pub list_done : (n : ℕ) → a ≡ Ok n → w ≡ whole_from mark n l
      → line (take n l) ++ unless_whole w ≡ tell_list mark line a l
  unfolding tell_list
  list_done n e f = rw (e, f)

  pub list-refused : (x : Refusal) → a ≡ Err x → w ≡ whole_from mark 0 l
      → refusal_line x ++ unless_whole w ≡ tell_list mark line a l
  unfolding tell_list
  list-refused x e f = rw (e, f)

module _ (a : Or ℕ) (ns ts : List ℕ) (w : Bool) where
  pub pairs-done : (n : ℕ) → a ≡ Ok n → w ≡ whole_pairs n ns ts
      → list_line (ascii "pairs") (two_in_turn (take n ns) (take n ts)) ++ unless_whole w ≡ tell_pairs a ns ts
  unfolding tell_pairs
  pairs-done n e f = rw (e, f)

  pub pairs-refused : (x : Refusal) → a ≡ Err x → w ≡ whole_pairs 0 ns ts
      → refusal_line x ++ unless_whole w ≡ tell_pairs a ns ts
  unfolding tell_pairs
  pairs-refused x e f = rw (e, f)

module _ (r : Or ℕ) (a b c : List ℕ) (w : Bool) where
  pub entries-done : (n : ℕ) → r ≡ Ok n → w ≡ whole_entries n a b c
      → list_line (ascii "entries") (three_in_turn (take n a) (take n b) (take n c)) ++ unless_whole w
      ≡ tell_entries r a b c
  unfolding tell_entries
  entries-done n e f = rw (e, f)

  pub entries-refused : (x : Refusal) → r ≡ Err x → w ≡ whole_entries 0 a b c
      → refusal_line x ++ unless_whole w ≡ tell_entries r a b c
  unfolding tell_entries
  entries-refused x e f = rw (e, f)

module _ (a : Or Stretch) (l : List ℕ) (w : Bool) where
  pub stretch-moved : (g : Stretch) → a ≡ Ok g → w ≡ whole_from mark16 g.listed l
      → taken_line g.taken g.next ++ numbers_line (take g.listed l) ++ unless_whole w ≡ tell_stretch a l
  unfolding tell_stretch
  stretch-moved g e f = rw (e, f)

  pub stretch-stuck : (x : Refusal) → a ≡ Err x → w ≡ whole_from mark16 0 l
      → refusal_line x ++ unless_whole w ≡ tell_stretch a l
  unfolding tell_stretch
  stretch-stuck x e f = rw (e, f)

-- the pattern in n items, behind the items that were stored in front of it, and all over
behind : (mark : ℕ → ℕ) (m : List ℕ) (n k : ℕ) → length m ≡ k
    → whole_from mark k (m ++ drop k (pattern mark 0 n)) ≡ true
behind mark m n k e =
    ap (stands eqb mark k) (drop_at m (drop k (pattern mark 0 n)) k e) ∙ stands-behind mark k n

all-over : (mark : ℕ → ℕ) (n : ℕ) → whole_from mark 0 (pattern mark 0 n) ≡ true
all-over mark n = stands-behind mark 0 n

-- where nothing is spoilt
whole-then : (text : List ℕ) {w : Bool} → w ≡ true → text ++ unless_whole w ≡ text
whole-then text e = rw e (append-nil text)

module _ (mark : ℕ → ℕ) (line : List ℕ → List ℕ) (room : ℕ) where
  list-is : (whole : Or (List ℕ))
      → tell_list mark line (answer_of whole room) (filled_of whole room (pattern mark 0 room)) ≡ line_in room line whole
  unfolding tell_list answer_of filled_of line_in
  list-is (Ok l) =
      either (leb (length l) room)
      (λ t. rw t (whole-then _ (behind mark l room (length l) refl)
      ∙ ap line (take-append_seam l (drop (length l) (pattern mark 0 room)))))
      (λ t. rw t (whole-then _ (all-over mark room)))
  list-is (Err x) = whole-then _ (all-over mark room)

  pub listed : {whole : Or (List ℕ)} {out out' : List ℕ} {a : Or ℕ} → out ≡ pattern mark 0 room
      → Listed whole out a out' → tell_list mark line a out' ≡ line_in room line whole
  listed {whole} {out} e d =
      let n : length out ≡ room = ap length e ∙ length-pattern mark 0 room in
      rw (d.answer, d.filled, n, e) (list-is whole)

-- lists side by side: the parts of the items that were listed
part-front : {A : Type 0} (f : A → ℕ) (l : List A) (rest : List ℕ) → take (length l) (map f l ++ rest) ≡ map f l
part-front f l rest = take_at (map f l) rest (length l) (length-map l f)

-- the pattern behind a part of the items, of which as many are listed as there are items
part-behind : {A : Type 0} (mark : ℕ → ℕ) (f : A → ℕ) (l : List A) (n : ℕ)
    → whole_from mark (length l) (map f l ++ drop (length l) (pattern mark 0 n)) ≡ true
part-behind mark f l n = behind mark (map f l) n (length l) (length-map l f)

-- what a lent list holds, of one part of the items that were listed; and where none were
part_filled : {A : Type 0} (f : A → ℕ) (l : List A) (room : ℕ) (out : List ℕ) → leb (length l) room ≡ true
    → filled_of (each f (Ok l)) room out ≡ map f l ++ drop (length l) out
unfolding filled_of
part_filled f l room out t = rw (length-map l f, t)

part_left : {A : Type 0} (f : A → ℕ) (l : List A) (room : ℕ) (out : List ℕ) → leb (length l) room ≡ false
    → filled_of (each f (Ok l)) room out ≡ out
unfolding filled_of
part_left f l room out t = rw (length-map l f, t)

module _ (m n room : ℕ) where
  whole-pairs : (l : List Receipt)
      → whole_pairs (length l) (map (λ x. x.number) l ++ drop (length l) (pattern mark16 0 m))
      (map (λ x. x.time.0) l ++ drop (length l) (pattern mark32 0 n))
      ≡ true
  whole-pairs l =
      rw (part-behind mark16 (λ x. x.number) l m, part-behind mark32 (λ x. x.time.0) l n)

  none-pairs : whole_pairs 0 (pattern mark16 0 m) (pattern mark32 0 n) ≡ true
  none-pairs = rw (all-over mark16 m, all-over mark32 n)

  pairs_is : (whole : Or (List Receipt))
      → tell_pairs (answer_of whole room) (filled_of (each (λ x. x.number) whole) room (pattern mark16 0 m))
      (filled_of (each (λ x. x.time.0) whole) room (pattern mark32 0 n))
      ≡ line_in room pairs_line whole
  unfolding tell_pairs answer_of filled_of line_in
  pairs_is (Ok l) =
      either (leb (length l) room)
      (λ t. rw (t, part_filled (λ x. x.number) l room _ t, part_filled (λ x. x.time.0) l room _ t)
      (whole-then _ (whole-pairs l)
      ∙ ap (list_line (ascii "pairs"))
      ((rw (part-front (λ x. x.number) l, part-front (λ x. x.time.0) l)) ∙ two-parts l)))
      (λ t. rw (t, part_left (λ x. x.number) l room _ t, part_left (λ x. x.time.0) l room _ t)
      (whole-then _ none-pairs))
  pairs_is (Err x) = whole-then _ none-pairs

pub listed-pairs : (n : ℕ) {whole : Or (List Receipt)} {ns ts ns' ts' : List ℕ} {a : Or ℕ} → ns ≡ pattern mark16 0 n
    → ts ≡ pattern mark32 0 n → ListedPairs whole ns ts a ns' ts' → tell_pairs a ns' ts' ≡ line_in n pairs_line whole
listed-pairs n {whole} {ns} {ts} e f d =
    let k : length ns ≡ n = ap length e ∙ length-pattern mark16 0 n in
    let j : length ts ≡ n = ap length f ∙ length-pattern mark32 0 n in
    let i : min n n ≡ n = omega arith in
    rw (d.answer, d.numbers, d.times, k, j, e, f, i) (pairs_is n n n whole)

module _ (n room : ℕ) where
  whole-entries : (l : List Echo)
      → whole_entries (length l) (map (λ x. x.ssrc) l ++ drop (length l) (pattern mark32 0 n))
      (map (λ x. x.last.0) l ++ drop (length l) (pattern mark32 0 n))
      (map (λ x. x.delay.0) l ++ drop (length l) (pattern mark32 0 n))
      ≡ true
  whole-entries l =
      rw (
        part-behind mark32 (λ x. x.ssrc) l n,
        part-behind mark32 (λ x. x.last.0) l n,
        part-behind mark32 (λ x. x.delay.0) l n,
      )

  none-entries : whole_entries 0 (pattern mark32 0 n) (pattern mark32 0 n) (pattern mark32 0 n) ≡ true
  none-entries = rw (all-over mark32 n)

  entries-is : (whole : Or (List Echo))
      → tell_entries (answer_of whole room) (filled_of (each (λ x. x.ssrc) whole) room (pattern mark32 0 n))
      (filled_of (each (λ x. x.last.0) whole) room (pattern mark32 0 n))
      (filled_of (each (λ x. x.delay.0) whole) room (pattern mark32 0 n))
      ≡ line_in room entries_line whole
  unfolding tell_entries answer_of filled_of line_in
  entries-is (Ok l) =
      either (leb (length l) room)
      (λ t. rw (
        t,
        part_filled (λ x. x.ssrc) l room _ t,
        part_filled (λ x. x.last.0) l room _ t,
        part_filled (λ x. x.delay.0) l room _ t,
      )
      (whole-then _ (whole-entries l)
      ∙ ap (list_line (ascii "entries"))
      ((rw (part-front (λ x. x.ssrc) l, part-front (λ x. x.last.0) l, part-front (λ x. x.delay.0) l))
      ∙ three-parts l)))
      (λ t. rw (
        t,
        part_left (λ x. x.ssrc) l room _ t,
        part_left (λ x. x.last.0) l room _ t,
        part_left (λ x. x.delay.0) l room _ t,
      ) (whole-then _ none-entries))
  entries-is (Err x) = whole-then _ none-entries

pub listed-entries : (n : ℕ) {whole : Or (List Echo)} {a b c a' b' c' : List ℕ} {r : Or ℕ} → a ≡ pattern mark32 0 n
    → b ≡ pattern mark32 0 n → c ≡ pattern mark32 0 n → ListedEntries whole a b c r a' b' c'
    → tell_entries r a' b' c' ≡ line_in n entries_line whole
listed-entries n {whole} {a} {b} {c} e f g d =
    let i : length a ≡ n = ap length e ∙ length-pattern mark32 0 n in
    let j : length b ≡ n = ap length f ∙ length-pattern mark32 0 n in
    let k : length c ≡ n = ap length g ∙ length-pattern mark32 0 n in
    let h : least3 a b c ≡ n = omega arith in
    rw (d.answer, d.ssrcs, d.lasts, d.delays, h, e, f, g) (entries-is n n whole)

-- a stretch: what was listed stands in front of the pattern, or nothing was stored
left_is : (n : ℕ) (f : Or (Unit {0})) (t : Stretch) (l : List ℕ) → t.listed ≡ length l
    → tell_stretch (advance_to f t) (left_to f l (pattern mark16 0 n)) ≡ stretch_told f t l
unfolding tell_stretch
left_is n (Ok _) t l e =
    rw e (whole-then _ (behind mark16 l n (length l) refl)
    ∙ ap (λ (m : List ℕ). taken_line t.taken t.next ++ numbers_line m)
    (take-append_seam l (drop (length l) (pattern mark16 0 n))))
left_is n (Err x) t l e = whole-then _ (all-over mark16 n)

module _ (n : ℕ) (c : Cursor) (budget : ℕ) where
  on-view : (v : List ℕ) (o : Option Rle)
      → tell_stretch (on_rle o (λ a. advance_of a v c budget n) (Err (not_served v)))
      (on_rle o (λ a. stretch_filled a v c budget (pattern mark16 0 n)) (pattern mark16 0 n))
      ≡ on_rle o (λ a. stretch_on a v c budget n) (refusal_line (not_served v))
  unfolding tell_stretch advance_of stretch_filled stretch_on
  on-view v (Some a) =
      rw (length-pattern mark16 0 n)
      (left_is n (advance_fault a v c budget n) (stretch_of (range_of (fields_at v)) (standard_words v) c budget)
      (listed_by (range_of (fields_at v)) (standard_words v) budget c) refl)
  on-view v None = whole-then _ (all-over mark16 n)

  in-packet : (t : ℕ) (w : Or (List ℕ))
      → tell_stretch (on_view_advanced w (λ v. advance_by t v c budget n))
      (on_view_filled w (λ v. filled_by t v c budget (pattern mark16 0 n)) (pattern mark16 0 n))
      ≡ on_view_text w (λ v. on_rle (rle_of t) (λ a. stretch_on a v c budget n) (refusal_line (not_served v)))
  unfolding tell_stretch
  in-packet t (Ok v) = on-view v (rle_of t)
  in-packet t (Err x) = whole-then _ (all-over mark16 n)

  pub stretched : {s : List ℕ} {k t : ℕ} {out out' : List ℕ} {a : Or Stretch} → out ≡ pattern mark16 0 n
      → StretchedBy s k t c budget out a out' → tell_stretch a out' ≡ stretch_in s k t c budget n
  unfolding stretch_in
  stretched {s} {k} {t} {out} e d =
      let j : length out ≡ n = ap length e ∙ length-pattern mark16 0 n in
      rw (d.answer, d.filled, j, e) (in-packet t (view_of Standard s k))
