use Rattle.std.proofs.Common.{◌≡◌, map, filter, take}
use Rattle.gql_faults.specs.TypeNames.{is_required}
use Rattle.gql_node_rules.proofs.signature.required.Given as goal

abbrev pub invariant-loop-definition : goal.invariant-loop-definition
invariant-loop-definition l = map (λ v. v.now) l.found.items ≡ filter is_required (take l.definition-index l.definitions)
