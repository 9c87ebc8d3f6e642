-- `swap::put_word` meets its contract: two stores in a row.
use native.Mathlib.Numerals.{add-one}
use native.Mathlib.Omega.{arith}
use lib.ListN.{length-set}
use lib.Seq.{sets}
use mathlib.Core.Path.{sym, ap}
use Rattle.little_endian.proofs.SwapLaws.{two_bytes}
use Rattle.swap.proofs.put_word.Goals as goal

pub returns : goal.returns
returns c = let a = c.args in
    rw (add-one a.n)
    (ap (sets a.out.now a.n) (sym (two_bytes a.body.now (λ i. (c.type_inv.body i).fits) a.k)))

pub bounds-out-n-2 : goal.bounds-out-n-2
bounds-out-n-2 c = simp length-set (omega arith)
