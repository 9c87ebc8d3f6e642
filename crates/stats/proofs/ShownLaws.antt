-- What std's words for options say of a summary's numbers, in the definition's own words. Assumes nothing.
--     count-if, jitter-if     a number where its flag is set
--     count-flag, jitter-flag the flag of a number that is there
--     given, jitter-given     the number, 0 where it is absent
use Rattle.std.proofs.Common.{◌≡◌, ℕ, Bool, true, false, cond, refl}
use Rattle.std.specs.Prelude.{Option, Some, None, is_some, unwrap_or}
use Rattle.std.specs.Bool.{then_some}
use Rattle.def_wire.specs.declared.Spread.{Spread}
use Rattle.def_wire.specs.Summary.{count_if, jitter_if, count_flag, jitter_flag, given_of, jitter_of, spread}

pub count-if : (b : Bool) (n : ℕ) → then_some b n ≡ count_if b n
count-if true n = refl
count-if false n = refl

pub jitter-if : (b : Bool) (x : Spread) → then_some b x ≡ jitter_if b x
jitter-if true x = refl
jitter-if false x = refl

pub count-flag : (bit : ℕ) (x : Option ℕ) → cond (is_some x) bit 0 ≡ count_flag bit x
count-flag bit (Some n) = refl
count-flag bit None = refl

pub jitter-flag : (x : Option Spread) → cond (is_some x) 32 0 ≡ jitter_flag x
jitter-flag (Some n) = refl
jitter-flag None = refl

pub given : (x : Option ℕ) → unwrap_or x 0 ≡ given_of x
given (Some n) = refl
given None = refl

pub jitter-given : (x : Option Spread) → unwrap_or x (spread 0 0 0 0) ≡ jitter_of x
jitter-given (Some n) = refl
jitter-given None = refl
