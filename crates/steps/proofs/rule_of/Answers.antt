-- `steps::rule_of` meets its contract: by the type's kind.
use mathlib.Core.Path.{refl}
use Rattle.def_wire.specs.Block.{standard_rule}
use Rattle.steps.proofs.KindLaws.{kind-is}
use Rattle.steps.proofs.rule_of.Goals as goal

pub returns-in-Spans : goal.returns-in-Spans
unfolding standard_rule
returns-in-Spans c = rw (c.rule.ensures, kind-is c.kind_of.ensures refl c.in-Some.is c.in-Spans.is)

pub returns-in-Clock : goal.returns-in-Clock
unfolding standard_rule
returns-in-Clock c = rw (
  c.rule-in-Clock.ensures,
  kind-is c.kind_of.ensures refl c.in-Some.is c.in-Clock.is,
)

pub returns-in-Echoes : goal.returns-in-Echoes
unfolding standard_rule
returns-in-Echoes c = rw (
  c.rule-in-Echoes.ensures,
  kind-is c.kind_of.ensures refl c.in-Some.is c.in-Echoes.is,
  c.saturating_sub-past.ensures,
)

pub returns-in-Statistics : goal.returns-in-Statistics
unfolding standard_rule
returns-in-Statistics c = rw (
  c.rule-in-Statistics.ensures,
  kind-is c.kind_of.ensures refl c.in-Some.is c.in-Statistics.is,
)
