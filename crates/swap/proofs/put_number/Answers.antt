-- `swap::put_number` meets its contract: four stores in a row.
use native.Mathlib.Numerals.{add-one}
use native.Mathlib.Omega.{arith}
use lib.ListN.{length-set}
use lib.Seq.{sets}
use Prim.Native.Nat.{◌+◌, suc}
use mathlib.Core.Path.{◌≡◌, sym, ap}
use Rattle.little_endian.proofs.SwapLaws.{four_bytes}
use Rattle.swap.proofs.put_number.Goals as goal

pub returns : goal.returns
returns c = let a = c.args in
    let e2 : a.n + 2 ≡ suc (suc a.n) = omega arith in
    let e3 : a.n + 3 ≡ suc (suc (suc a.n)) = omega arith in
    let e4 : a.k + 3 ≡ a.k + 2 + 1 = omega arith in
    rw (add-one a.n, e2, e3)
    (ap (sets a.out.now a.n)
    (sym (four_bytes a.body.now (λ i. (c.type_inv.body i).fits) a.k)))

pub bounds-out-n-2 : goal.bounds-out-n-2
bounds-out-n-2 c = simp length-set (omega arith)

pub bounds-out-n-3 : goal.bounds-out-n-3
bounds-out-n-3 c = simp length-set (omega arith)

pub bounds-out-n-4 : goal.bounds-out-n-4
bounds-out-n-4 c = simp length-set (omega arith)
