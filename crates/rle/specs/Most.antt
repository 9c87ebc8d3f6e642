-- As many numbers as words can list, and how many bytes of words are read (RULES, "Crate reading").
use Rattle.std.specs.Prelude.{ℕ, ◌+◌, cond, List, [], ◌∷◌, ltb}
use Rattle.def_standard.specs.Chunks.{covers_of}

-- the crate reading's functions read no more bytes than the longest packet has, so that a count fits its type
abbrev pub longest : ℕ
longest = 262144

-- at most as many numbers as these words can list: none of zeros, one for each place else
unfoldable pub most_of : List ℕ → ℕ
most_of [] = 0
most_of (w ∷ ws) = cond (ltb w 16384) 0 (covers_of w) + most_of ws
