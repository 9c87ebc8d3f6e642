-- `dlrr::store` meets its contract: stores n entries from the front of each list.
use Rattle.dlrr.proofs.EntriesTurn.{begun, whole, room-ssrcs, room-lasts, room-delays, turned, ended}
use native.Mathlib.Omega.{arith}
use Rattle.dlrr.proofs.store.Goals as goal

pub loop-i-init : goal.loop-i-init
loop-i-init c = let a = c.args in
    begun a.v.now a.ssrcs.now a.lasts.now a.delays.now a.n c.requires.n_value c.requires.n_bound

pub entry-e-requires : goal.entry-e-requires
entry-e-requires c = let a = c.args in
    whole a.v.now a.ssrcs.now a.lasts.now a.delays.now a.n c.requires.n_value c.loop-i.ssrcs
    c.loop-i.lasts c.loop-i.delays c.loop-i.i c.loop-i.invariant (omega arith)

pub bounds-ssrcs-i : goal.bounds-ssrcs-i
bounds-ssrcs-i c = let a = c.args in
    room-ssrcs a.v.now a.ssrcs.now a.lasts.now a.delays.now a.n c.requires.n_value c.loop-i.ssrcs
    c.loop-i.lasts c.loop-i.delays c.loop-i.i c.loop-i.invariant (omega arith)

pub bounds-lasts-i : goal.bounds-lasts-i
bounds-lasts-i c = let a = c.args in
    room-lasts a.v.now a.ssrcs.now a.lasts.now a.delays.now a.n c.requires.n_value c.loop-i.ssrcs
    c.loop-i.lasts c.loop-i.delays c.loop-i.i c.loop-i.invariant (omega arith)

pub bounds-delays-i : goal.bounds-delays-i
bounds-delays-i c = let a = c.args in
    room-delays a.v.now a.ssrcs.now a.lasts.now a.delays.now a.n c.requires.n_value c.loop-i.ssrcs
    c.loop-i.lasts c.loop-i.delays c.loop-i.i c.loop-i.invariant (omega arith)

pub overflow_mul-i : goal.overflow_mul-i
overflow_mul-i c = let a = c.args in
    omega (
      arith,
      whole a.v.now a.ssrcs.now a.lasts.now a.delays.now a.n c.requires.n_value c.loop-i.ssrcs
          c.loop-i.lasts c.loop-i.delays c.loop-i.i c.loop-i.invariant (omega arith),
    )

pub overflow_add-i : goal.overflow_add-i
overflow_add-i c = let a = c.args in
    omega (
      arith,
      whole a.v.now a.ssrcs.now a.lasts.now a.delays.now a.n c.requires.n_value c.loop-i.ssrcs
          c.loop-i.lasts c.loop-i.delays c.loop-i.i c.loop-i.invariant (omega arith),
    )

pub loop-i-preserved : goal.loop-i-preserved
loop-i-preserved c = let a = c.args in
    turned a.v.now a.ssrcs.now a.lasts.now a.delays.now a.n c.requires.n_value c.loop-i.ssrcs
    c.loop-i.lasts c.loop-i.delays c.loop-i.i c.loop-i.invariant (omega arith)
    c.entry-e.result c.entry-e.ensures

pub returns : goal.returns
returns c = let a = c.args in
    ended a.v.now a.ssrcs.now a.lasts.now a.delays.now a.n c.requires.n_value c.loop-i.ssrcs
    c.loop-i.lasts c.loop-i.delays c.loop-i.i c.loop-i.invariant (omega arith)
