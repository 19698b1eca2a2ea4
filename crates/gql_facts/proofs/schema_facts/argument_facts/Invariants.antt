use Rattle.std.proofs.Common.{◌≡◌, map, take}
use Rattle.gql_facts.specs.Facts.{input_fact}
use Rattle.gql_facts.proofs.schema_facts.argument_facts.Given as goal

abbrev pub invariant-loop-argument : goal.invariant-loop-argument
invariant-loop-argument l = l.facts.items ≡ map input_fact (take l.argument-index l.arguments)
