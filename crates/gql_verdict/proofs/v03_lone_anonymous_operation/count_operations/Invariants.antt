use Rattle.std.proofs.Common.{◌≡◌, count_by, map, take}
use Rattle.gql_ast.specs.declared.definition.Definition.{Definition}
use Rattle.gql_verdict.specs.Definitions.{is_operation}
use Rattle.gql_verdict.proofs.v03_lone_anonymous_operation.count_operations.Given as goal

abbrev pub invariant-loop-definition : goal.invariant-loop-definition
invariant-loop-definition l = l.count ≡ count_by (λ (d : Definition). is_operation d.tree)
    (map (λ d. d.now) (take l.definition-index l.definitions))
