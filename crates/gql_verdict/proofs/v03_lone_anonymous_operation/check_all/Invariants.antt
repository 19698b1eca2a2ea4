use Rattle.std.proofs.Common.{◌≡◌, ◌++◌, flat_map, map, take}
use Rattle.gql_verdict.specs.V03LoneAnonymousOperation.{fault_if_anonymous}
use Rattle.gql_verdict.proofs.v03_lone_anonymous_operation.check_all.Given as goal

abbrev pub invariant-loop-definition : goal.invariant-loop-definition
invariant-loop-definition l = l.faults.items ≡ l.initial.faults.items
    ++ flat_map fault_if_anonymous (map (λ d. d.now) (take l.definition-index l.definitions))
