use Rattle.std.proofs.Common.{◌≡◌, ◌++◌, map}
use Rattle.gql_verdict.specs.Definitions.{all_definitions}
use Rattle.gql_found.proofs.operations.definitions_of.Given as goal

abbrev pub invariant-loop-name : goal.invariant-loop-name
invariant-loop-name l = map (λ d. d.now) l.all.items ++ all_definitions l._name-iterator ≡ all_definitions l.documents
