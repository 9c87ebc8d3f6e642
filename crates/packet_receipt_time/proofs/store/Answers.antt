-- `packet_receipt_time::store` meets its contract: stores n pairs from the front of both lists.
use Rattle.packet_receipt_time.proofs.PairsTurn.{begun, whole, room-numbers, room-times, turned, ended}
use Rattle.std.proofs.Common.{arith}
use Rattle.packet_receipt_time.proofs.store.Goals as goal

pub loop-i-init : goal.loop-i-init
loop-i-init c = let a = c.args in
    begun a.v.now a.first a.step a.n a.numbers.now a.times.now c.requires.n_in_bounds c.requires.n_bound

pub time_at-t-requires : goal.time_at-t-requires
time_at-t-requires c = let a = c.args in
    whole a.v.now a.first a.step a.n a.numbers.now a.times.now c.requires.n_in_bounds c.loop-i.numbers
    c.loop-i.times c.loop-i.i c.loop-i.x c.loop-i.invariant (omega arith)

pub bounds-numbers-i : goal.bounds-numbers-i
bounds-numbers-i c = let a = c.args in
    room-numbers a.v.now a.first a.step a.n a.numbers.now a.times.now c.requires.n_in_bounds
    c.loop-i.numbers c.loop-i.times c.loop-i.i c.loop-i.x c.loop-i.invariant (omega arith)

pub bounds-times-i : goal.bounds-times-i
bounds-times-i c = let a = c.args in
    room-times a.v.now a.first a.step a.n a.numbers.now a.times.now c.requires.n_in_bounds
    c.loop-i.numbers c.loop-i.times c.loop-i.i c.loop-i.x c.loop-i.invariant (omega arith)

pub loop-i-preserved : goal.loop-i-preserved
loop-i-preserved c = let a = c.args in
    turned a.v.now a.first a.step a.n a.numbers.now a.times.now c.requires.n_in_bounds c.loop-i.numbers
    c.loop-i.times c.loop-i.i c.loop-i.x c.loop-i.invariant (omega arith)
    c.time_at-t.result.0 c.wrapping_add_u16-x.result c.time_at-t.ensures c.wrapping_add_u16-x.ensures.value

pub returns : goal.returns
returns c = let a = c.args in
    ended a.v.now a.first a.step a.n a.numbers.now a.times.now c.requires.n_in_bounds c.loop-i.numbers
    c.loop-i.times c.loop-i.i c.loop-i.x c.loop-i.invariant (omega arith)
