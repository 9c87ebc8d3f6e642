-- Bytes gathered as a number: the one place that unfolds `held_over`. Assumes nothing.
--     held-skipped     of a part that is skipped nothing is held
--     held_next, held_none     the next byte, and none left
use Rattle.std.proofs.Common.{add-one, drop_of_length-le}
use Prim.Native.Nat.{ℕ, ◌+◌, ◌≤◌, ◌<◌}
use mathlib.Core.Path.{◌≡◌, refl}
use mathlib.Core.List.{List, [], ◌∷◌}
use native.Mathlib.Omega.{arith}
use lib.ListN.{length, drop, length-take, length-drop}
use lib.Seq.{drop-cons}
use Rattle.def_wire.specs.Bytes.{byte_at}
use Rattle.def_wire.specs.Packet.{part}
use Rattle.states.specs.Steps.{skipped, held_with, held_over}

pub held-skipped : (item h : ℕ) (bs : List ℕ) → item ≡ skipped → h ≡ held_over item h bs
unfolding held_over
held-skipped item h [] e = refl
held-skipped item h (b ∷ bs) e = rw e (held-skipped item h bs e)

pub length_part : (x : List ℕ) (at n : ℕ) → at + n ≤ length x → length (part x at n) ≡ n
length_part x at n h = omega (arith, length-take n (drop at x), length-drop at x)

module _ (item h i : ℕ) (bs : List ℕ) where
  -- the next byte
  pub held_next : i < length bs
      → held_over item h (drop i bs) ≡ held_over item (held_with item h (byte_at bs i)) (drop (i + 1) bs)
  unfolding held_over
  held_next k = rw (add-one, drop-cons bs i 0)

  -- none is left
  pub held_none : length bs ≤ i → held_over item h (drop i bs) ≡ h
  unfolding held_over
  held_none k = rw (drop_of_length-le bs k)
