-- One turn of the loops over a stretch of words, and what is passed at once. Assumes nothing.
--     covered_none, covered_more                    what a stretch of no words covers, and one of a word more
--     Adding, adding-none, adding-more              what the words so far cover, low and high bytes apart
--     Gathering, gathering-none, gathering-more     the position behind them, and a number for all of them
--     over_none, over-inside, over-quiet            no word, words inside the range, words outside it without ones
use Rattle.std.proofs.Common.{◌≡◌, ℕ, suc, ◌+◌, ◌-◌, ◌*◌, ◌/◌, ◌%◌, ◌<◌, ◌≤◌, ltb, List, length, refl, inl, inr, arith, ltb-false, ltb-true}
use lib.Bits.{bit_or, and_le_l, and_le_r, or_add_and}
use Rattle.laws.proofs.Tests.{either}
use Rattle.def_standard.specs.Chunks.{covers_of}
use Rattle.def_jobs.specs.Jobs.{le16}
use Rattle.chunk.proofs.ChunkLaws.{covers-lt}
use Rattle.misled.specs.Known.{Quiet, covered_in, QuietIn, Over}

pub record Adding (body : List ℕ) (from k low high : ℕ) : Type 0 where
  pub sum : low + 256 * high ≡ covered_in body from k
  pub lows : low ≤ 255 * k
  pub highs : high ≤ 63 * k

-- the number is below 16384 only where none has a one
pub record Gathering (body : List ℕ) (from start k p ones : ℕ) : Type 0 where
  pub circle : p ≡ (start + covered_in body from k) % 65536
  pub quiet : ones < 16384 → QuietIn body from k

module _ (body : List ℕ) (from : ℕ) where
  pub covered_none : covered_in body from 0 ≡ 0
  unfolding covered_in
  covered_none = refl

  pub covered_more : (k : ℕ)
      → covered_in body from (suc k) ≡ covered_in body from k + covers_of (le16 body (from + 2 * k))
  unfolding covered_in
  covered_more k = refl

  pub adding-none : Adding body from 0 0 0
  adding-none = record { sum = omega (arith, covered_none); lows = omega arith; highs = omega arith }

  pub gathering-none : (start : ℕ) → start < 65536 → Gathering body from start 0 start 0
  gathering-none start h =
      record {
        circle = omega (arith, covered_none);
        quiet = λ _. record { each = λ k l. absurd (omega arith) };
      }

  module _ (k c : ℕ) (e : c ≡ covers_of (le16 body (from + 2 * k))) where
    pub adding-more : {low high : ℕ} → Adding body from k low high
        → Adding body from (k + 1) (low + c % 256) (high + c / 256)
    adding-more a = let n : k + 1 ≡ suc k = omega arith in
        rw n record {
          sum = omega (arith, a.sum, covered_more k, e);
          lows = omega (arith, a.lows);
          highs = omega (arith, a.highs, e, covers-lt (le16 body (from + 2 * k)));
        }

    pub gathering-more : {start p ones : ℕ} (v : ℕ) → (v < 16384 → Quiet (le16 body (from + 2 * k)))
        → Gathering body from start k p ones → Gathering body from start (k + 1) ((p + c) % 65536) (bit_or ones v)
    gathering-more {ones = ones} v q s =
        let o = or_add_and ones v in
        let n : k + 1 ≡ suc k = omega arith in
        rw n record {
          circle = omega (arith, s.circle, covered_more k, e);
          quiet = λ h. record {
            each = λ i l. either (ltb i k)
                (λ t. (s.quiet (omega (arith, o, and_le_r ones v))).each i (ltb-true _ _ t))
                (λ t. let w : i ≡ k = omega (arith, ltb-false i k t) in rw w (q (omega (arith, o, and_le_l ones v))));
          };
        }

module _ (body : List ℕ) (left p at : ℕ) where
  pub over_none : at ≤ length body → p < 65536 → Over body left p at left p at
  over_none h k =
      let z = covered_none body at in
      record {
        words = 0;
        index = omega arith;
        within = h;
        clear = inl (omega (arith, z));
        inside = omega (arith, z);
        circle = omega (arith, z);
      }
