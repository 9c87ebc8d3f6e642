-- Characters, and numbers as text.
--     ascii         the bytes of a quoted text
--     decimal_of     a number's decimal digits
--     hex_of         a byte's two hexadecimal digits; hexes_of, those of many
--     spaced        a number with a space before it; spaced_all, many of them
--     labelled      a word, a space and a number
--     two_in_turn, three_in_turn     lists side by side, item by item
use Rattle.std.specs.Prelude.{ℕ, zero, suc, ◌+◌, ◌/◌, ◌%◌, cond, List, [], ◌∷◌, ◌++◌, ltb}
use Prim.Native.Char.{code}
use Prim.Native.String.{String}
use Prim.Native.String.{[] as []ᵗ, ◌∷◌ as ◌∷ᵗ◌}

-- a text's characters, by their codes
abbrev pub ascii : String → List ℕ
ascii []ᵗ = []
ascii (c ∷ᵗ text) = code c ∷ ascii text

-- a digit's character: 0 to 9, then a to f
abbrev pub glyph : ℕ → ℕ
glyph d = cond (ltb d 10) (48 + d) (87 + d)

-- a number that has at most k digits and one more: its last digit behind those of its tenth part, where there is one
unfoldable pub decimal_within : ℕ → ℕ → List ℕ
decimal_within zero n = glyph n ∷ []
decimal_within (suc k) n = cond (ltb n 10) (glyph n ∷ []) (decimal_within k (n / 10) ++ (glyph (n % 10) ∷ []))

-- a number of 64 bits has at most 20 digits
abbrev pub decimal_of : ℕ → List ℕ
decimal_of n = decimal_within 19 n

-- a byte, in lower case
abbrev pub hex_of : ℕ → List ℕ
hex_of b = glyph (b / 16) ∷ glyph (b % 16) ∷ []

-- bytes one after the other, nothing between them
unfoldable pub hexes_of : List ℕ → List ℕ
hexes_of [] = []
hexes_of (b ∷ bs) = hex_of b ++ hexes_of bs

-- a space and a number
abbrev pub spaced : ℕ → List ℕ
spaced n = 32 ∷ decimal_of n

-- a space before each number, and none behind the last
unfoldable pub spaced_all : List ℕ → List ℕ
spaced_all [] = []
spaced_all (n ∷ ns) = spaced n ++ spaced_all ns

-- a word, a space and a number
abbrev pub labelled : List ℕ → ℕ → List ℕ
labelled word n = word ++ spaced n

-- a line's end
abbrev pub line_end : List ℕ
line_end = 10 ∷ []

-- the items of two and of three lists in turn, as far as the shortest goes
unfoldable pub two_in_turn : List ℕ → List ℕ → List ℕ
two_in_turn [] ys = []
two_in_turn (x ∷ xs) [] = []
two_in_turn (x ∷ xs) (y ∷ ys) = x ∷ y ∷ two_in_turn xs ys

unfoldable pub three_in_turn : List ℕ → List ℕ → List ℕ → List ℕ
three_in_turn [] ys zs = []
three_in_turn (x ∷ xs) [] zs = []
three_in_turn (x ∷ xs) (y ∷ ys) [] = []
three_in_turn (x ∷ xs) (y ∷ ys) (z ∷ zs) = x ∷ y ∷ z ∷ three_in_turn xs ys zs
