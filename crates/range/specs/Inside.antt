-- How many positions are inside a range (RFC 3611, 4.1).
--     ceil_div         a division rounded up
--     inside_count     positions 0 .. inside_count - 1 are inside, and no others
use Rattle.std.specs.Prelude.{ℕ, ◌+◌, ◌-◌, ◌/◌, ◌^◌}
use Rattle.def_standard.specs.declared.Range.{Range}

unfoldable pub ceil_div : ℕ → ℕ → ℕ
ceil_div a m = (a + (m - 1)) / m

unfoldable pub inside_count : Range → ℕ
inside_count g = ceil_div g.size (2 ^ g.thinning)
