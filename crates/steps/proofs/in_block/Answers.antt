-- `steps::in_block` meets its contract: by the block's kind.
use Rattle.states.specs.Steps.{in_block}
use Rattle.steps.proofs.KindLaws.{kind-is, kind-none}
use Rattle.steps.proofs.in_block.Goals as goal

pub returns-in-Spans : goal.returns-in-Spans
unfolding in_block
returns-in-Spans c = rw (
  c.opened.ensures,
  kind-is c.kind_of.ensures c.first_byte.ensures c.in-Some.is c.in-Spans.is,
  c.saturating_sub-left.ensures,
  c.length_of.ensures.value,
  c.nothing.ensures,
)

pub returns-in-Clock : goal.returns-in-Clock
unfolding in_block
returns-in-Clock c = rw (
  c.opened-in-Clock.ensures,
  kind-is c.kind_of.ensures c.first_byte.ensures c.in-Some.is c.in-Clock.is,
  c.saturating_sub-left.ensures,
  c.length_of.ensures.value,
  c.nothing.ensures,
)

pub returns-in-Echoes : goal.returns-in-Echoes
unfolding in_block
returns-in-Echoes c = rw (
  c.opened-in-Echoes.ensures,
  kind-is c.kind_of.ensures c.first_byte.ensures c.in-Some.is c.in-Echoes.is,
  c.saturating_sub-left.ensures,
  c.length_of.ensures.value,
  c.nothing.ensures,
)

pub returns-in-Statistics : goal.returns-in-Statistics
unfolding in_block
returns-in-Statistics c = rw (
  c.opened-in-Statistics.ensures,
  kind-is c.kind_of.ensures c.first_byte.ensures c.in-Some.is c.in-Statistics.is,
  c.saturating_sub-left.ensures,
  c.length_of.ensures.value,
  c.nothing.ensures,
)

pub returns-in-None : goal.returns-in-None
unfolding in_block
returns-in-None c = rw (
  c.opened-in-None.ensures,
  kind-none c.kind_of.ensures c.first_byte.ensures c.in-None.is,
  c.saturating_sub-left.ensures,
  c.length_of.ensures.value,
  c.nothing.ensures,
)
