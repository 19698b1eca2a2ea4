use Rattle.std.proofs.Common.{◌≡◌, ◌++◌}
use Rattle.gql_verdict.specs.Definitions.{all_definitions}
use Rattle.gql_usage.proofs.stored.definitions_of.Given as goal

abbrev pub invariant-loop-name : goal.invariant-loop-name
invariant-loop-name l = l.all.items ++ all_definitions l._name-iterator ≡ all_definitions l.documents
