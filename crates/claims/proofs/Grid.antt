-- Thinning counts from zero and not from begin. Assumes nothing.
--     ahead, by-distance, numbers_on, pairs-on, moved_up     the claims
use Rattle.std.specs.Prelude.{Ok, Err}
use Prim.Native.Nat.{ℕ, ◌%◌, ◌^◌, ◌≤◌, ◌<◌, min}
use mathlib.Core.Path.{◌≡◌, refl, sym, subst, ◌∙◌}
use mathlib.Core.List.{List, [], ◌∷◌, ◌++◌, map}
use native.Mathlib.Nat.{mod-lt}
use native.Mathlib.Omega.{arith}
use lib.ListN.{length, get_or, drop, length-map, get_or-append}
use lib.Dec.{leb, lit<}
use Rattle.laws.proofs.Tests.{by-test}
use Rattle.def_refusals.specs.Answers.{Or, on_fine, each, answer_of, filled_of}
use Rattle.def_wire.specs.declared.Reading.TheVariants.{Standard}
use Rattle.def_wire.specs.declared.Ranged.TheVariants.{Chunks, Times}
use Rattle.def_wire.specs.declared.Kind.TheVariants.{Spans}
use Rattle.def_wire.specs.Bytes.{words32}
use Rattle.def_wire.specs.Block.{specific_of, fields_at, words_at, check_of}
use Rattle.def_standard.specs.declared.Receipt.{Receipt}
use Rattle.def_standard.specs.Standard.{standard_numbers, standard_pairs}
use Rattle.def_questions.specs.Questions.{numbers_shown, pairs_shown}
use Rattle.range.proofs.GridLaws.{ahead-less, sum-on-grid, inside-ahead, number-ahead, range_moved}
use Rattle.written.proofs.Lists.{Each, each_at}
use Rattle.written.proofs.RecordsLaws.{not-shown, on_fine_lem}
use Rattle.old_readers.proofs.ApartLaws.{numbers-grid, pairs-grid}
use Rattle.claims.specs.Grid.{Ahead, ByDistance, NumbersOn, PairsOn, MovedUp}
use Rattle.claims.proofs.Taken.{done-eq}

pub ahead : Ahead
ahead b t = (sum-on-grid b t, ahead-less b t)

pub by-distance : ByDistance
by-distance f p = (inside-ahead f p, number-ahead f p)

pub moved_up : MovedUp
moved_up f b e h = range_moved f b e h

-- ---- what calls store

-- what holds of all that is shown holds of each number that was stored
stored : (P : ℕ → Type 0) (whole : Or (List ℕ)) (room n : ℕ) (out out' : List ℕ) → Ok n ≡ answer_of whole room
    → out' ≡ filled_of whole room out → ((l : List ℕ) → whole ≡ Ok l → Each P l) → (i : ℕ) → i < n
    → P (get_or out' i 0)
unfolding answer_of filled_of
stored P (Err x) room n out out' a f h i k = absurd (let z : ◌≡◌ {A = ℕ} 0 1 = cc in omega arith)
stored P (Ok l) room n out out' a f h i k =
    by-test (leb (length l) room)
    (λ t e.
    let m : n ≡ length l = sym (done-eq e) in
    let g : out' ≡ l ++ drop (length l) out = rw t at f in
    let j : i < length l = omega arith in
    rw (g, get_or-append l (drop (length l) out) 0 i j) (each_at P 0 l i (h l refl) j))
    (λ _ e. absurd (let z : ◌≡◌ {A = ℕ} 0 1 = cc in omega arith)) (sym a)

-- a block's thinning is four bits
thin : (v : List ℕ) → (fields_at v).thinning ≤ 16
thin v = let h : specific_of v % 16 < 16 = mod-lt (specific_of v) (lit< tt) in omega arith

pub numbers_on : NumbersOn
unfolding numbers_shown
numbers_on a v out out' n p =
    stored (λ (x : ℕ). x % 2 ^ (fields_at v).thinning ≡ 0) _ (length out) n out out' p.answer p.filled
    (λ l e. subst (Each (λ (x : ℕ). x % 2 ^ (fields_at v).thinning ≡ 0))
    (on_fine_lem (check_of Standard (Spans (Chunks a)) v) (standard_numbers v) l e).1
    (numbers-grid (fields_at v) (thin v) (words_at v)))

-- ---- pairs

abbrev number_in : Receipt → ℕ
number_in x = x.number

on-each : (c : Or (Unit {0})) (x : List Receipt) (l : List ℕ) → each number_in (on_fine c (Ok x)) ≡ Ok l
    → map number_in x ≡ l
on-each (Ok _) x l e = cc
on-each (Err z) x l e = not-shown e

each_number : (P : ℕ → Type 0) (l : List Receipt) → Each (λ (x : Receipt). P x.number) l → Each P (map number_in l)
each_number P [] e = tt
each_number P (x ∷ l) e = (e.0, each_number P l e.1)

same_answer : (whole : Or (List Receipt)) (room : ℕ) → answer_of whole room ≡ answer_of (each number_in whole) room
unfolding answer_of
same_answer (Ok l) room = rw (length-map l number_in)
same_answer (Err x) room = refl

pub pairs-on : PairsOn
unfolding pairs_shown
pairs-on v ns ts ns' ts' n p =
    let P : ℕ → Type 0 = λ (x : ℕ). x % 2 ^ (fields_at v).thinning ≡ 0 in
    let c = check_of Standard (Spans Times) v in
    let room = min (length ns) (length ts) in
    stored P (each number_in (on_fine c (Ok (standard_pairs v)))) room n ns ns'
    (p.answer ∙ same_answer (on_fine c (Ok (standard_pairs v))) room) p.numbers
    (λ l e. subst (Each P) (on-each c (standard_pairs v) l e)
    (each_number P (standard_pairs v) (pairs-grid (fields_at v) (thin v) (words32 (drop 12 v)))))
