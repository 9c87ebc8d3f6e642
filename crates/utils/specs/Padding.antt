-- Rounding up to a multiple of 4 (utils.rs, pad_to_4bytes).
use Rattle.std.specs.Prelude.{ℕ, ◌+◌, ◌*◌, ◌/◌, ◌%◌, ◌^◌}

-- the least multiple of 4 that is not less; the sum of 64 bits wraps, as in the Rust's release build
abbrev pub padded_of : ℕ → ℕ
padded_of n = (n + 3) % 2 ^ 64 / 4 * 4
