-- `xr_offset_sequence` of xr/mod.rs, and the 16-bit start that moves (xr/rle.rs, RleSequenceIter::next).
use Rattle.std.specs.Prelude.{ℕ, ◌+◌, ◌*◌, ◌%◌, ◌^◌, Bool, cond, not, ◌&&◌, ltb, leb, Option, Some, None}
use Rattle.def_standard.specs.Range.{circle}

-- x times 2 to the t, wrapped to 16 bits: `x.wrapping_mul(2u16.pow(t))`
abbrev pub doubled_of : ℕ → ℕ → ℕ
doubled_of x t = x * 2 ^ t % circle

-- `seq.wrapping_mul(2u16.pow(thinning)).wrapping_add(start)`
abbrev pub sequence_of : ℕ → ℕ → ℕ → ℕ
sequence_of q start t = (doubled_of q t + start) % circle

-- the test of a number s from a start to an end: where end ≤ start it fails when end ≤ s < start, else when end ≤ s
unfoldable pub passes : ℕ → ℕ → ℕ → Bool
passes start end s = cond (leb end start) (not (ltb s start && leb end s)) (ltb s end)

-- `xr_offset_sequence(seq, start, end, thinning)`
unfoldable pub offset_sequence : ℕ → ℕ → ℕ → ℕ → Option ℕ
offset_sequence q start end t = cond (passes start end (sequence_of q start t)) (Some (sequence_of q start t)) None

-- the start after positions were covered: `seq_offset.wrapping_add(2u16.pow(thinning).wrapping_mul(len))`
abbrev pub moved_by : ℕ → ℕ → ℕ → ℕ
moved_by covered t start = (start + doubled_of covered t) % circle
