-- Thinning counts from zero and not from begin (RFC 3611, 4.1; RULES, "Standard reading"): b, e and T are a block's
-- begin, end and thinning.
--     Ahead         d, `ahead_of b T`, is how far it is from b up to the next number that is 0 mod 2^T
--     ByDistance    position p is inside where d + p · 2^T < R, and its number is (b + d + p · 2^T) mod 65536
--     NumbersOn     every number that `numbers::numbers` stores in the standard reading is 0 mod 2^T
--     PairsOn       and every number that `packet_receipt_time::pairs` stores
--     MovedUp       fields whose begin is moved up to the grid report on the same numbers, if end does not come first
-- Nothing is asked of a call but its contract; it was lent out, or ns and ts, and left out', or ns' and ts', in them.
use Rattle.std.specs.Prelude.{ℕ, ◌+◌, ◌*◌, ◌%◌, ◌^◌, ◌<◌, ◌≡◌, List, get_or, ltb, Ok}
use Rattle.def_refusals.specs.Answers.{Listed}
use Rattle.def_wire.specs.declared.Reading.TheVariants.{Standard}
use Rattle.def_wire.specs.declared.Rle.{Rle}
use Rattle.def_wire.specs.declared.Fields.{Fields}
use Rattle.def_wire.specs.Block.{fields_at}
use Rattle.def_standard.specs.Range.{size_of, ahead_of, range_of, inside, number_of}
use Rattle.def_questions.specs.Questions.{numbers_shown, pairs_shown, ListedPairs}

abbrev pub Ahead : Type 0
Ahead = (b t : ℕ) → ((b + ahead_of b t) % 2 ^ t ≡ 0) × (ahead_of b t < 2 ^ t)

abbrev pub ByDistance : Type 0
ByDistance =
    (f : Fields) (p : ℕ) → let d = ahead_of f.begin f.thinning in let on = p * 2 ^ f.thinning in
    (inside (range_of f) p ≡ ltb (d + on) (size_of f.begin f.end))
    × (number_of (range_of f) p ≡ (f.begin + d + on) % 65536)

-- n numbers of a block
abbrev pub NumbersOn : Type 0
NumbersOn =
    (a : Rle) (v out out' : List ℕ) (n : ℕ)
    → Listed (numbers_shown Standard a v) out (Ok n) out'
    → (i : ℕ) → i < n → get_or out' i 0 % 2 ^ (fields_at v).thinning ≡ 0

-- n pairs of a block
abbrev pub PairsOn : Type 0
PairsOn =
    (v ns ts ns' ts' : List ℕ) (n : ℕ)
    → ListedPairs (pairs_shown Standard v) ns ts (Ok n) ns' ts'
    → (i : ℕ) → i < n → get_or ns' i 0 % 2 ^ (fields_at v).thinning ≡ 0

-- the same fields from another number on
abbrev pub moved_to : ℕ → Fields → Fields
moved_to b f = record { ssrc = f.ssrc; begin = b; end = f.end; thinning = f.thinning }

-- so words and times ask for the same numbers of both
abbrev pub MovedUp : Type 0
MovedUp =
    (f : Fields) → f.begin < 65536 → f.end < 65536
    → ahead_of f.begin f.thinning < size_of f.begin f.end
    → range_of (moved_to ((f.begin + ahead_of f.begin f.thinning) % 65536) f) ≡ range_of f
