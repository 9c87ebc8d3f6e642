-- `frame::write_padding` meets its contract: zeros, then the count.
use Rattle.frame.proofs.FrameLaws.{padding_bytes-last, piece, told}
use Rattle.laws.proofs.Stores.{none, and_then, same}
use Prim.Native.Nat.{ℕ, ◌-◌}
use lib.ListN.{length-replicate}
use native.Mathlib.Omega.{arith}
use mathlib.Core.Path.{refl}
use mathlib.Core.List.{[], ◌∷◌}
use Rattle.frame.proofs.write_padding.Goals as goal

pub returns-then-n-eq0 : goal.returns-then-n-eq0
returns-then-n-eq0 c = rw c.if-n-eq0.true none

pub bounds-out-last : goal.bounds-out-last
bounds-out-last c = let w = c.zero_bytes-last.ensures in
    let a = c.args in
    omega (arith, w.past, same w, length-replicate {A = ℕ} (a.n - 1) 0)

pub overflow_add-result : goal.overflow_add-result
overflow_add-result c = let w = c.zero_bytes-last.ensures in
    let a = c.args in
    omega (arith, w.past, length-replicate {A = ℕ} (a.n - 1) 0)

pub returns : goal.returns
returns c = let a = c.args in
    told (padding_bytes-last a.n (omega arith))
    (and_then c.zero_bytes-last.ensures (piece c.zero_bytes-last.new.out _ (a.n ∷ []) c.zero_bytes-last.result refl))
