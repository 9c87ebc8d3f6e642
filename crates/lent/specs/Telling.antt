-- What is printed of a call that listed into lent memory: its line, and `spoilt` where the pattern does not stand
-- behind the items, or does not stand at all after a refusal.
--     unless_whole        the line `spoilt`
--     tell_list           of one list; tell_pairs, tell_entries, of two and of three side by side
--     tell_stretch        of a stretch of the number cursor
use Rattle.std.specs.Prelude.{ℕ, Bool, false, cond, List, [], ◌++◌, take, drop, eqb, Ok, Err}
use Rattle.def_cursor.specs.declared.Stretch.{Stretch}
use Rattle.def_refusals.specs.Answers.{Or}
use Rattle.def_text.specs.Numerals.{ascii, two_in_turn, three_in_turn}
use Rattle.def_dump.specs.Lines.{refusal_line, list_line, numbers_line, taken_line}
use Rattle.lent.specs.Pattern.{mark16, mark32, stands}

abbrev pub unless_whole : Bool → List ℕ
unless_whole whole = cond whole [] (ascii "spoilt\n")

-- whether the pattern stands in a list from an index on
abbrev pub whole_from : (ℕ → ℕ) → ℕ → List ℕ → Bool
whole_from mark n l = stands eqb mark n (drop n l)

unfoldable pub tell_list : (ℕ → ℕ) → (List ℕ → List ℕ) → Or ℕ → List ℕ → List ℕ
tell_list mark line (Ok n) l = line (take n l) ++ unless_whole (whole_from mark n l)
tell_list mark line (Err x) l = refusal_line x ++ unless_whole (whole_from mark 0 l)

abbrev pub whole_pairs : ℕ → List ℕ → List ℕ → Bool
whole_pairs n ns ts = cond (whole_from mark16 n ns) (whole_from mark32 n ts) false

unfoldable pub tell_pairs : Or ℕ → List ℕ → List ℕ → List ℕ
tell_pairs (Ok n) ns ts =
    list_line (ascii "pairs") (two_in_turn (take n ns) (take n ts)) ++ unless_whole (whole_pairs n ns ts)
tell_pairs (Err x) ns ts = refusal_line x ++ unless_whole (whole_pairs 0 ns ts)

abbrev pub whole_entries : ℕ → List ℕ → List ℕ → List ℕ → Bool
whole_entries n a b c = cond (whole_from mark32 n a) (cond (whole_from mark32 n b) (whole_from mark32 n c) false) false

unfoldable pub tell_entries : Or ℕ → List ℕ → List ℕ → List ℕ → List ℕ
tell_entries (Ok n) a b c =
    list_line (ascii "entries") (three_in_turn (take n a) (take n b) (take n c)) ++ unless_whole (whole_entries n a b c)
tell_entries (Err x) a b c = refusal_line x ++ unless_whole (whole_entries 0 a b c)

unfoldable pub tell_stretch : Or Stretch → List ℕ → List ℕ
tell_stretch (Ok g) l =
    taken_line g.taken g.next ++ numbers_line (take g.listed l) ++ unless_whole (whole_from mark16 g.listed l)
tell_stretch (Err x) l = refusal_line x ++ unless_whole (whole_from mark16 0 l)
