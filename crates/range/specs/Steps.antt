-- Numbers one step apart on the circle of 65,536.
use Rattle.std.specs.Prelude.{ℕ, ◌+◌, ◌%◌, ◌^◌}
use Rattle.def_standard.specs.Range.{circle}

-- how far two neighbouring positions are apart
abbrev pub step_of : ℕ → ℕ
step_of t = 2 ^ t % circle

-- the number one step on
abbrev pub onward : ℕ → ℕ → ℕ
onward step first = (first + step) % circle
