use Rattle.std.proofs.Common.{◌≡◌, ◌++◌, map, take}
use Rattle.gql_found.proofs.operations.add_definitions.Given as goal

abbrev pub invariant-loop-definition : goal.invariant-loop-definition
invariant-loop-definition l = map (λ d. d.now) l.all.items
    ≡ map (λ d. d.now) l.initial.all.items ++ take l.definition-index l.definitions
