use Rattle.std.proofs.Common.{◌≡◌, ◌++◌, take}
use Rattle.gql_iface_rules.specs.S26DirectiveCycles.{on_values}
use Rattle.gql_iface_rules.proofs.s26_parts.add_values.Given as goal

abbrev pub invariant-loop-value : goal.invariant-loop-value
invariant-loop-value l = l.names ≡ l.initial.names ++ on_values (take l.value-index l.values)
