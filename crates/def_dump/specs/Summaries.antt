-- The lines of a summary (RULES, "Views, cursors and the dump" and "Packets in portions").
--     summary_parts     its four texts, with something between them
--     summary_lines     in the dump: four lines
use Rattle.std.specs.Prelude.{ℕ, List, ◌++◌, Option, Some, None}
use Rattle.def_wire.specs.declared.Spread.{Spread}
use Rattle.def_wire.specs.declared.ByteSpread.{ByteSpread}
use Rattle.def_wire.specs.declared.HopsOr.{HopsOr}
use Rattle.def_wire.specs.declared.HopsOr.TheVariants.{NoHops, Ttl, HopLimit, Unknown}
use Rattle.def_wire.specs.declared.Summary.{Summary}
use Rattle.def_text.specs.Numerals.{ascii, spaced, labelled, line_end}

abbrev pub absent : List ℕ
absent = ascii " absent"

-- `ssrc S begin B end E`
unfoldable pub span_text : Summary → List ℕ
span_text s =
    labelled (ascii "ssrc") s.ssrc ++ labelled (ascii " begin") s.begin ++ labelled (ascii " end") s.end

-- a number, or the word `absent` in its place
abbrev pub count_text : Option ℕ → List ℕ
count_text (Some n) = spaced n
count_text None = absent

-- `lost N duplicates N`
unfoldable pub counts_text : Summary → List ℕ
counts_text s = ascii "lost" ++ count_text s.lost ++ ascii " duplicates" ++ count_text s.duplicates

-- `jitter MIN MAX MEAN DEVIATION`, or `jitter absent`
unfoldable pub jitter_text : Option Spread → List ℕ
jitter_text (Some x) =
    ascii "jitter" ++ spaced x.least ++ spaced x.most ++ spaced x.mean ++ spaced x.deviation
jitter_text None = ascii "jitter" ++ absent

-- `ttl MIN MAX MEAN DEVIATION`, `hops ..`; `ttl absent` where ToH is 0, `toh 3 absent` where it is 3
abbrev pub four_text : ByteSpread → List ℕ
four_text x = spaced x.least ++ spaced x.most ++ spaced x.mean ++ spaced x.deviation

unfoldable pub hops_text : HopsOr → List ℕ
hops_text NoHops = ascii "ttl" ++ absent
hops_text (Ttl x) = ascii "ttl" ++ four_text x
hops_text (HopLimit x) = ascii "hops" ++ four_text x
hops_text Unknown = ascii "toh 3" ++ absent

unfoldable pub summary_parts : List ℕ → Summary → List ℕ
summary_parts between s =
    span_text s ++ between ++ counts_text s ++ between ++ jitter_text s.jitter ++ between ++ hops_text s.hops

abbrev pub summary_lines : Summary → List ℕ
summary_lines s = summary_parts line_end s ++ line_end
