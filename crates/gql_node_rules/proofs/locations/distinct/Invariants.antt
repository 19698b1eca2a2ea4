use Rattle.std.proofs.Common.{◌≡◌, take}
use Rattle.gql_ast.specs.declared.type_system.DirectiveLocation.{DirectiveLocation}
use Rattle.gql_node_rules.specs.Applied.{is_listed}
use Rattle.gql_node_rules.proofs.locations.distinct.Given as goal

abbrev pub invariant-loop-location : goal.invariant-loop-location
invariant-loop-location l = (x : DirectiveLocation) → is_listed x l.found.items ≡ is_listed x (take l.location-index l.locations)
