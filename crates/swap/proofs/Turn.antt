-- One turn of the loops that store a body's numbers, so many bytes at a time. Assumes nothing.
--     Going      the numbers between `from` and k are stored, between `at` and n; those from k on are still to come
use Prim.Native.Nat.{ℕ, ◌+◌, ◌-◌, ◌≤◌}
use mathlib.Core.Path.{◌≡◌, sym, ap}
use mathlib.Core.List.{List, []}
use native.Mathlib.Omega.{arith}
use lib.ListN.{length, drop}
use lib.Seq.{sets}
use Rattle.little_endian.specs.Pieces.{Pieces}
use Rattle.laws.specs.Stores.{Wrote}
use Rattle.laws.proofs.Filling.{Storing, room_for, wrote, ended}

pub record Going (f : List ℕ → List ℕ) (body : List ℕ) (from : ℕ) (l₀ : List ℕ) (at : ℕ) (l : List ℕ) (k n : ℕ)
    : Type 0 where
  pub low : from ≤ k
  pub high : k ≤ length body
  pub here : n ≡ at + (k - from)
  pub state : Storing l₀ at (f (drop from body)) l (f (drop k body)) n

module _ {f : List ℕ → List ℕ} {body : List ℕ} {from : ℕ} {l₀ : List ℕ} {at : ℕ} {l : List ℕ} {k n : ℕ}
    (g : Going f body from l₀ at l k n) where
  -- the next piece is inside, there is room for it, and it is stored
  module _ {m : ℕ} {piece : ℕ → List ℕ} (p : Pieces f body m piece) (h : m ≤ length body - k) where
    within : k + m ≤ length body
    within = omega (arith, g.high)

    pub going-room : (k + m ≤ length body) × (n + m ≤ length l)
    going-room =
        (within, omega (arith, p.size k, room_for (piece k) (f (drop (k + m) body)) (p.next k within) g.state))

    pub going_next : {l' : List ℕ} → l' ≡ sets l n (piece k) → Going f body from l₀ at l' (k + m) (n + m)
    going_next w =
        record {
          low = omega (arith, g.low);
          high = within;
          here = omega (arith, g.low, g.here);
          state = wrote {xs = piece k} (p.next k within)
              (record { stored = w; past = ap (λ (x : ℕ). n + x) (sym (p.size k)) })
              g.state;
        }
