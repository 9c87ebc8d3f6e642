-- Big-endian numbers in a list of bytes (RFC 3550, 4). A byte past the end counts as 0.
--     be16, be32, be64     the number at an index
--     words16, words32     the whole words of a list of bytes, in order
--     two, four, eight     a number's bytes
use Rattle.std.specs.Prelude.{ℕ, ◌+◌, ◌*◌, ◌/◌, ◌%◌, List, [], ◌∷◌, ◌++◌, get_or}

abbrev pub byte_at : List ℕ → ℕ → ℕ
byte_at s at = get_or s at 0

abbrev pub be16 : List ℕ → ℕ → ℕ
be16 s at = byte_at s at * 256 + byte_at s (at + 1)

abbrev pub be32 : List ℕ → ℕ → ℕ
be32 s at = be16 s at * 65536 + be16 s (at + 2)

abbrev pub be64 : List ℕ → ℕ → ℕ
be64 s at = be32 s at * 4294967296 + be32 s (at + 4)

-- neighbours joined two by two, the first one worth b times the second; a last one alone is left out
unfoldable pub pair_up : ℕ → List ℕ → List ℕ
pair_up b [] = []
pair_up b (x ∷ []) = []
pair_up b (x ∷ y ∷ rest) = (x * b + y) ∷ pair_up b rest

abbrev pub words16 : List ℕ → List ℕ
words16 s = pair_up 256 s

abbrev pub words32 : List ℕ → List ℕ
words32 s = pair_up 65536 (words16 s)

-- a number's bytes, big-endian
abbrev pub two : ℕ → List ℕ
two x = x / 256 % 256 ∷ x % 256 ∷ []

abbrev pub four : ℕ → List ℕ
four x = two (x / 65536) ++ two x

abbrev pub eight : ℕ → List ℕ
eight x = four (x / 4294967296) ++ four x
