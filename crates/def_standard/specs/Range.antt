-- The sequence numbers that a block reports on (RFC 3611, 4.1; RULES, "Standard reading"). That position p of a block
-- is inside where d + p · 2^T < R, and then has the number (begin + d + p · 2^T) mod 65536, is proved (`claims`, Grid).
--     size_of       R, how many numbers its range has
--     ahead_of      d, how far the first number on its grid lies ahead of begin
--     range_of      what a block's fields report on
--     inside       whether a position is inside
--     number_of     a position's sequence number
use Rattle.std.specs.Prelude.{ℕ, ◌+◌, ◌*◌, ◌-◌, ◌%◌, ◌^◌, Bool, cond, ltb, eqb}
use Rattle.def_wire.specs.declared.Fields.{Fields}
use Rattle.def_standard.specs.declared.Range.{Range}

-- sequence numbers have 16 bits, so there are 65,536 of them
abbrev pub circle : ℕ
circle = 65536

-- R: how many numbers there are from begin to before end; the whole circle where they are equal (a house rule, as the
-- crate's)
abbrev pub size_of : ℕ → ℕ → ℕ
size_of b e = cond (eqb b e) circle ((e + circle - b) % circle)

-- d: a block thinned by T reports on the numbers that are 0 mod 2^T, its grid; this far it is from begin up to the next
-- of them, 0 where begin is one
unfoldable pub ahead_of : ℕ → ℕ → ℕ
ahead_of b t = (2 ^ t - b % 2 ^ t) % 2 ^ t

-- from the first number on the grid to before end; nothing where end comes first (R ≤ d)
unfoldable pub range_of : Fields → Range
range_of f =
    record {
      begin = (f.begin + ahead_of f.begin f.thinning) % circle;
      size = size_of f.begin f.end - ahead_of f.begin f.thinning;
      thinning = f.thinning;
    }

-- how far position p lies from the first
unfoldable pub offset_of : Range → ℕ → ℕ
offset_of g p = p * 2 ^ g.thinning

unfoldable pub inside : Range → ℕ → Bool
inside g p = ltb (offset_of g p) g.size

unfoldable pub number_of : Range → ℕ → ℕ
number_of g p = (g.begin + offset_of g p) % circle
