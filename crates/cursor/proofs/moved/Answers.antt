-- `cursor::moved` meets its contract: the cursor after m steps in the word w, which do not go past it.
use Rattle.cursor.proofs.WithinLaws.{moved-inner, moved-last}
use Rattle.cursor.proofs.LegalLaws.{steps-le}
use Rattle.def_cursor.specs.Cursor.{steps_in}
use Prim.Native.Nat.{◌+◌, ◌<◌, ◌≤◌}
use native.Mathlib.Omega.{arith}
use Rattle.cursor.proofs.moved.Goals as goal

pub overflow_add-c-2 : goal.overflow_add-c-2
overflow_add-c-2 c = omega (arith, c.requires.1, steps-le c.args.w)

pub returns-then-c-m : goal.returns-then-c-m
returns-then-c-m c = let a = c.args in
    let h : a.c.place + a.m < steps_in a.w = rw (← c.steps_in.ensures) c.if-c-m.true in
    rw (
      moved-inner a.w a.c.word a.c.place a.c.position a.m h,
      c.min-position.ensures,
      c.min-passed.ensures,
      c.covers.ensures,
    )

pub returns : goal.returns
returns c = let a = c.args in
    let h : steps_in a.w ≤ a.c.place + a.m = rw (← c.steps_in.ensures) c.if-c-m.false in
    rw (
      moved-last a.w a.c.word a.c.place a.c.position a.m h,
      c.min-position.ensures,
      c.min-passed.ensures,
      c.covers.ensures,
    )
