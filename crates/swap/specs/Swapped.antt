-- Little-endian numbers as big-endian bytes.
--     swapped16, swapped32     the numbers of a list of bytes
--     words4, numbers2         those of the eight bytes at an index
use Rattle.std.specs.Prelude.{ℕ, ◌+◌, List, ◌++◌}
use Rattle.def_wire.specs.Bytes.{two, four}
use Rattle.def_jobs.specs.Jobs.{le16, le32, low16, low32}
use Rattle.def_jobs.specs.Layout.{bytes_of}

abbrev pub swapped16 : List ℕ → List ℕ
swapped16 s = bytes_of two (low16 s)

abbrev pub swapped32 : List ℕ → List ℕ
swapped32 s = bytes_of four (low32 s)

abbrev pub words4 : List ℕ → ℕ → List ℕ
words4 s k = two (le16 s k) ++ (two (le16 s (k + 2)) ++ (two (le16 s (k + 4)) ++ two (le16 s (k + 6))))

abbrev pub numbers2 : List ℕ → ℕ → List ℕ
numbers2 s k = four (le32 s k) ++ four (le32 s (k + 4))
