-- `swap::store8` meets its contract: eight stores in a row.
use native.Mathlib.Numerals.{add-one}
use native.Mathlib.Omega.{arith}
use lib.ListN.{length-set}
use Prim.Native.Nat.{◌+◌, suc}
use mathlib.Core.Path.{◌≡◌}
use Rattle.swap.proofs.store8.Goals as goal

pub returns : goal.returns
returns c = let n = c.args.n in
    let e2 : n + 2 ≡ suc (suc n) = omega arith in
    let e3 : n + 3 ≡ suc (suc (suc n)) = omega arith in
    let e4 : n + 4 ≡ suc (suc (suc (suc n))) = omega arith in
    let e5 : n + 5 ≡ suc (suc (suc (suc (suc n)))) = omega arith in
    let e6 : n + 6 ≡ suc (suc (suc (suc (suc (suc n))))) = omega arith in
    let e7 : n + 7 ≡ suc (suc (suc (suc (suc (suc (suc n)))))) = omega arith in
    rw (add-one n, e2, e3, e4, e5, e6, e7)

pub bounds-out-n-2 : goal.bounds-out-n-2
bounds-out-n-2 c = simp length-set (omega arith)

pub bounds-out-n-3 : goal.bounds-out-n-3
bounds-out-n-3 c = simp length-set (omega arith)

pub bounds-out-n-4 : goal.bounds-out-n-4
bounds-out-n-4 c = simp length-set (omega arith)

pub bounds-out-n-5 : goal.bounds-out-n-5
bounds-out-n-5 c = simp length-set (omega arith)

pub bounds-out-n-6 : goal.bounds-out-n-6
bounds-out-n-6 c = simp length-set (omega arith)

pub bounds-out-n-7 : goal.bounds-out-n-7
bounds-out-n-7 c = simp length-set (omega arith)

pub bounds-out-n-8 : goal.bounds-out-n-8
bounds-out-n-8 c = simp length-set (omega arith)
