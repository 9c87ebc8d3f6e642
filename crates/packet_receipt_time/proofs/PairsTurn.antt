-- One turn of the loop that stores pairs, on plain lists and numbers.
use Rattle.std.proofs.Common.{◌≡◌, ℕ, ◌+◌, ◌-◌, ◌*◌, ◌<◌, ◌≤◌, min, List, ◌∷◌, map, length, drop, set, ap, ◌∙◌, arith, length-drop}
use lib.ListN.{length-map}
use Rattle.laws.proofs.Filling.{Filling, start, within, put, done}
use Rattle.def_wire.specs.Bytes.{be32, words32}
use Rattle.def_standard.specs.declared.Receipt.{Receipt}
use Rattle.def_standard.specs.Standard.{receipt}
use Rattle.utils.proofs.BytesLaws.{words32-cons, length-words32}
use Rattle.range.specs.Steps.{onward}
use Rattle.packet_receipt_time.specs.Pairs.{stepped, number_in, time_in, Stored}
use Rattle.packet_receipt_time.proofs.PairsLaws.{stepped-none, stepped-cons, length-stepped}

-- n pairs from the number x and the time at `at` on
abbrev pub rest_at : List ℕ → ℕ → ℕ → ℕ → ℕ → List Receipt
rest_at v step x n at = stepped step x n (words32 (drop at v))

-- i pairs are stored, the next number is x, and both lists are filled so far
pub record Storing (v : List ℕ) (first step n : ℕ) (ns₀ ts₀ ns ts : List ℕ) (i x : ℕ) : Type 0 where
  pub numbers : Filling (map number_in (rest_at v step first n 12)) ns₀ ns (map number_in (rest_at v step x (n - i) (12 + 4 * i))) i
  pub times : Filling (map time_in (rest_at v step first n 12)) ts₀ ts (map time_in (rest_at v step x (n - i) (12 + 4 * i))) i

module _ (v : List ℕ) (first step n : ℕ) (ns₀ ts₀ : List ℕ) (enough : n ≤ length (words32 (drop 12 v))) where
  whole_length : length (rest_at v step first n 12) ≡ n
  whole_length = omega (arith, length-stepped step first n (words32 (drop 12 v)))

  all : (f : Receipt → ℕ) → map f (rest_at v step first n 12) ≡ map f (rest_at v step first (n - 0) 12)
  all f = ap (λ (k : ℕ). map f (rest_at v step first k 12)) (let e : n ≡ n - 0 = omega arith in e)

  pub begun : n ≤ min (length ns₀) (length ts₀) → Storing v first step n ns₀ ts₀ ns₀ ts₀ 0 first
  begun h =
      record {
        numbers = rw (← all number_in) (start (rw (length-map (rest_at v step first n 12) number_in)
            (omega (arith, whole_length))));
        times = rw (← all time_in) (start (rw (length-map (rest_at v step first n 12) time_in)
            (omega (arith, whole_length))));
      }

  module _ (ns ts : List ℕ) (i x : ℕ) (s : Storing v first step n ns₀ ts₀ ns ts i x) where
    abbrev at : ℕ
    at = 12 + 4 * i

    -- the next time is whole
    pub whole : i < n → at + 4 ≤ length v
    whole h = omega (arith, length-words32 (drop 12 v), length-drop 12 v)

    module _ (h : i < n) where
      next : rest_at v step x (n - i) at ≡ receipt x (be32 v at) ∷ rest_at v step (onward step x) (n - (i + 1)) (12 + 4 * (i + 1))
      next =
          let e : 12 + 4 * (i + 1) ≡ at + 4 = omega arith in
          rw e
          (ap (stepped step x (n - i)) (words32-cons v at (whole h))
          ∙ stepped-cons step x (n - i) (n - (i + 1)) (be32 v at) (words32 (drop (at + 4) v)) (omega arith))

      pub room-numbers : i < length ns
      room-numbers = within (ap (map number_in) next) s.numbers

      pub room-times : i < length ts
      room-times = within (ap (map time_in) next) s.times

      pub turned : (t y : ℕ) → t ≡ be32 v at → y ≡ onward step x
          → Storing v first step n ns₀ ts₀ (set ns i x) (set ts i t) (i + 1) y
      turned t y e q =
          rw (e, q)
          (record {
            numbers = put (ap (map number_in) next) s.numbers;
            times = put (ap (map time_in) next) s.times;
          })

    pub ended : n ≤ i → Stored (rest_at v step first n 12) ns₀ ts₀ ns ts
    ended h =
        let e = stepped-none step x (n - i) (words32 (drop at v)) (omega arith) in
        record { numbers = (done (ap (map number_in) e) s.numbers).1; times = (done (ap (map time_in) e) s.times).1 }
