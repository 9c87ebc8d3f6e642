-- `marks::join` meets its contract: fours one behind the other.
use native.Mathlib.Omega.{arith}
use Rattle.marks.proofs.FourLaws.{gathered-lt}
use Rattle.marks.proofs.join.Goals as goal

pub overflow_mul-result : goal.overflow_mul-result
overflow_mul-result c = omega (arith, c.gather.ensures, gathered-lt c.args.a)

pub overflow_mul-result-2 : goal.overflow_mul-result-2
overflow_mul-result-2 c = omega (arith, c.gather-2.ensures, gathered-lt c.args.b)

pub overflow_add-result : goal.overflow_add-result
overflow_add-result c = let a = c.args in
    omega (arith, c.gather.ensures, c.gather-2.ensures, gathered-lt a.a, gathered-lt a.b)

pub overflow_mul-result-3 : goal.overflow_mul-result-3
overflow_mul-result-3 c = omega (arith, c.gather-3.ensures, gathered-lt c.args.c)

pub overflow_add-result-2 : goal.overflow_add-result-2
overflow_add-result-2 c = let a = c.args in
    omega (
      arith,
      c.gather.ensures,
      c.gather-2.ensures,
      c.gather-3.ensures,
      gathered-lt a.a,
      gathered-lt a.b,
      gathered-lt a.c,
    )

pub overflow_add-result-3 : goal.overflow_add-result-3
overflow_add-result-3 c = let a = c.args in
    omega (
      arith,
      c.gather.ensures,
      c.gather-2.ensures,
      c.gather-3.ensures,
      gathered-lt a.a,
      gathered-lt a.b,
      gathered-lt a.c,
    )
