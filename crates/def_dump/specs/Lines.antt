-- The lines that the dump and xrprobe print, each with its line end (RULES, "Views, cursors and the dump"; README,
-- "xrprobe").
use Rattle.std.specs.Prelude.{ℕ, List, [], ◌∷◌, ◌++◌}
use Rattle.def_refusals.specs.declared.Refusal.{Refusal}
use Rattle.def_refusals.specs.Numbers.{numbered}
use Rattle.def_wire.specs.declared.Reading.{Reading}
use Rattle.def_wire.specs.declared.Reading.TheVariants.{Standard, Crate}
use Rattle.def_wire.specs.declared.Fields.{Fields}
use Rattle.def_standard.specs.declared.Receipt.{Receipt}
use Rattle.def_standard.specs.declared.Echo.{Echo}
use Rattle.def_cursor.specs.declared.Cursor.{Cursor}
use Rattle.def_text.specs.Numerals.{ascii, hex_of, hexes_of, spaced, spaced_all, labelled, line_end}

-- `refused N`, in the dump
unfoldable pub refused_line : Refusal → List ℕ
refused_line x = labelled (ascii "refused") (numbered x).number ++ line_end

-- `refused N A B`, everywhere else
unfoldable pub refusal_line : Refusal → List ℕ
refusal_line x =
    labelled (ascii "refused") (numbered x).number ++ spaced (numbered x).first ++ spaced (numbered x).second ++
    line_end

-- `reading standard`, `reading crate`
abbrev pub reading_line : Reading → List ℕ
reading_line Standard = ascii "reading standard" ++ line_end
reading_line Crate = ascii "reading crate" ++ line_end

-- `block K type T length L`
unfoldable pub block_line : ℕ → ℕ → ℕ → List ℕ
block_line k type length =
    labelled (ascii "block") k ++ labelled (ascii " type") type ++ labelled (ascii " length") length ++ line_end

-- `ssrc S begin B end E thinning T`
unfoldable pub fields_line : Fields → List ℕ
fields_line f =
    labelled (ascii "ssrc") f.ssrc ++ labelled (ascii " begin") f.begin ++ labelled (ascii " end") f.end
    ++ labelled (ascii " thinning") f.thinning ++ line_end

-- `time N`
unfoldable pub time_line : ℕ → List ℕ
time_line t = labelled (ascii "time") t ++ line_end

-- a word and a list: the bare word where the list is empty
unfoldable pub list_line : List ℕ → List ℕ → List ℕ
list_line word l = word ++ spaced_all l ++ line_end

-- `numbers ..`
abbrev pub numbers_line : List ℕ → List ℕ
numbers_line l = list_line (ascii "numbers") l

-- `words ..`
abbrev pub words_line : List ℕ → List ℕ
words_line l = list_line (ascii "words") l

-- `pairs n t n t ..`
unfoldable pub pair_numbers : List Receipt → List ℕ
pair_numbers [] = []
pair_numbers (x ∷ l) = x.number ∷ x.time.0 ∷ pair_numbers l

abbrev pub pairs_line : List Receipt → List ℕ
pairs_line l = list_line (ascii "pairs") (pair_numbers l)

-- `entries s l d s l d ..`
unfoldable pub entry_numbers : List Echo → List ℕ
entry_numbers [] = []
entry_numbers (x ∷ l) = x.ssrc ∷ x.last.0 ∷ x.delay.0 ∷ entry_numbers l

abbrev pub entries_line : List Echo → List ℕ
entries_line l = list_line (ascii "entries") (entry_numbers l)

-- `taken K word W place P position Q`
unfoldable pub taken_line : ℕ → Cursor → List ℕ
taken_line taken c =
    labelled (ascii "taken") taken ++ labelled (ascii " word") c.word ++ labelled (ascii " place") c.place
    ++ labelled (ascii " position") c.position ++ line_end

-- `word hhhh`
unfoldable pub word_line : ℕ → ℕ → List ℕ
word_line hi lo = ascii "word " ++ hex_of hi ++ hex_of lo ++ line_end

-- `blocks N ssrc S`
unfoldable pub blocks_line : ℕ → ℕ → List ℕ
blocks_line n ssrc = labelled (ascii "blocks") n ++ labelled (ascii " ssrc") ssrc ++ line_end

-- `view OFFSET LENGTH header hhhhhhhh`
unfoldable pub view_line : ℕ → ℕ → List ℕ → List ℕ
view_line offset length header =
    labelled (ascii "view") offset ++ spaced length ++ ascii " header " ++ hexes_of header ++ line_end

-- `packet hh..`
unfoldable pub packet_line : List ℕ → List ℕ
packet_line bytes = ascii "packet " ++ hexes_of bytes ++ line_end
