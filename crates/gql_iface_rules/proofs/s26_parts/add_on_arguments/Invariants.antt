use Rattle.std.proofs.Common.{◌≡◌, ◌++◌, take}
use Rattle.gql_iface_rules.specs.S26DirectiveCycles.{on_arguments}
use Rattle.gql_iface_rules.proofs.s26_parts.add_on_arguments.Given as goal

abbrev pub invariant-loop-argument : goal.invariant-loop-argument
invariant-loop-argument l = l.names ≡ l.initial.names ++ on_arguments (take l.argument-index l.arguments)
