-- Where the crate reading's test fails first (RULES, "Crate reading"; xr/mod.rs xr_offset_sequence).
--     first_fail    the first place whose number fails
use Rattle.std.specs.Prelude.{ℕ, ◌+◌, ◌-◌, ◌*◌, ◌%◌, ◌^◌, cond, nat_lt}
use Rattle.def_standard.specs.Range.{circle}
use Rattle.range.specs.Inside.{ceil_div}

-- how far end lies beyond the start: 1 .. 65,536
abbrev pub gap_of : ℕ → ℕ → ℕ
gap_of start end = (end + 65535 - start) % circle + 1

-- as far from the start as this, and further, numbers pass again
abbrev pub again_of : ℕ → ℕ → ℕ
again_of start end = cond (nat_lt start end) (circle - start) circle

-- no place fails: larger than any place
abbrev pub never : ℕ
never = 18446744073709551615

-- the first place as far as end, where it fails; else none does
unfoldable pub first_fail : ℕ → ℕ → ℕ → ℕ
first_fail start end t =
    cond (nat_lt (ceil_div (gap_of start end) (2 ^ t) * 2 ^ t) (again_of start end))
    (ceil_div (gap_of start end) (2 ^ t))
    never
