-- `block_events::put_entries` meets its contract: what is still to be stored are the entries from the next one on.
-- Assumes nothing.
use Rattle.std.proofs.Common.{◌∙◌, arith}
use lib.ListN.{length-map}
use Rattle.def_standard.specs.Standard.{entries_of}
use Rattle.def_portions.specs.declared.Event.TheVariants.{Entry}
use Rattle.block_events.proofs.EntriesTurn.{begun, entry-there, turned, entries-stored}
use Rattle.block_events.proofs.put_entries.Goals as goal

pub loop-left-init : goal.loop-left-init
loop-left-init c = let a = c.args in
    begun a.v.now a.count a.n a.tags.now a.values.now c.requires.count_value c.requires.count_in_bounds.0 c.requires.count_in_bounds.1

pub load32-requires : goal.load32-requires
load32-requires c = omega (arith, entry-there c.loop-left.invariant c.loop-left-test.true)

pub bounds-tags-i : goal.bounds-tags-i
bounds-tags-i c = omega (arith, c.loop-left.invariant.room-tags, c.loop-left-test.true)

pub overflow_add-at : goal.overflow_add-at
overflow_add-at c = omega (
  arith,
  entry-there c.loop-left.invariant c.loop-left-test.true,
  c.well_formed,
)

pub load32-requires-in-loop-left : goal.load32-requires-in-loop-left
load32-requires-in-loop-left c = omega (arith, entry-there c.loop-left.invariant c.loop-left-test.true)

pub overflow_add-at-in-loop-left : goal.overflow_add-at-in-loop-left
overflow_add-at-in-loop-left c = omega (
  arith,
  entry-there c.loop-left.invariant c.loop-left-test.true,
  c.well_formed,
)

pub load32-requires-in-loop-left-2 : goal.load32-requires-in-loop-left-2
load32-requires-in-loop-left-2 c = omega (arith, entry-there c.loop-left.invariant c.loop-left-test.true)

pub bounds-values-i : goal.bounds-values-i
bounds-values-i c = omega (arith, c.loop-left.invariant.room-values, c.loop-left-test.true)

pub overflow_add-at-in-loop-left-2 : goal.overflow_add-at-in-loop-left-2
overflow_add-at-in-loop-left-2 c = omega (
  arith,
  entry-there c.loop-left.invariant c.loop-left-test.true,
  c.well_formed,
)

pub overflow_add-i : goal.overflow_add-i
overflow_add-i c = let p = c.loop-left.invariant in
    omega (
      arith,
      p.room-tags,
      p.same-tags,
      c.loop-left-test.true,
      c.well_formed,
    )

pub loop-left-preserved : goal.loop-left-preserved
loop-left-preserved c = turned c.loop-left.invariant c.loop-left-test.true c.load32.result c.join32.result c.load32.ensures
    (c.join32.ensures ∙ (rw (c.load32-in-loop-left.ensures, c.load32-in-loop-left-2.ensures)))

pub returns : goal.returns
returns c = let s = entries-stored c.loop-left.invariant c.loop-left-test.false in
    let a = c.args in
    record { tags_after = s.tags; values_after = s.values; value = s.past ∙ (rw (length-map (entries_of a.v.now) Entry)) }
