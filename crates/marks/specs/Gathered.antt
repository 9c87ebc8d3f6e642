-- Marks in the lowest bits of a number's four bytes, put side by side (private).
use Rattle.std.specs.Prelude.{ℕ, ◌+◌, ◌*◌, ◌/◌, ◌%◌}

-- neighbours side by side: two bits to a byte, then four
abbrev pub twos_of : ℕ → ℕ
twos_of x = x + x / 128

abbrev pub fours_of : ℕ → ℕ
fours_of x = x + x / 16384

unfoldable pub gathered : ℕ → ℕ
gathered x = fours_of (twos_of x) % 16

-- fifteen marks of four numbers: the last one has again the mark that the third ends with
abbrev pub joined : ℕ → ℕ → ℕ → ℕ → ℕ
joined a b c d = gathered a * 2048 + gathered b * 128 + gathered c * 8 + gathered d % 8
