-- The twelve examples of RULES hold together.
use Rattle.examples.specs.Examples.{Twelve}
use Rattle.examples.proofs.Twelve as examples

pub twelve-examples : Twelve
twelve-examples = examples.twelve
