use Rattle.std.proofs.Common.{◌≡◌, ◌++◌, take}
use Rattle.gql_usage.proofs.stored.add_definitions.Given as goal

abbrev pub invariant-loop-definition : goal.invariant-loop-definition
invariant-loop-definition l = l.all.items ≡ l.initial.all.items ++ take l.definition-index l.definitions
