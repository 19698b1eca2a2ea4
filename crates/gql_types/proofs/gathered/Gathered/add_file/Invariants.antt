use Rattle.std.proofs.Common.{◌≡◌, ◌++◌, map, take}
use Rattle.gql_types.specs.Definitions as spec
use Rattle.gql_types.specs.Sites.{others_in, site}
use Rattle.gql_types.proofs.gathered.Gathered.add_file.Given as goal

abbrev pub invariant-loop-definition : goal.invariant-loop-definition
invariant-loop-definition l = (map site l.self.types.items ≡ map site l.fn.self.types.items ++ spec.type_definitions (spec.in_order_of (take l.definition-index l.definitions)))
    × (l.self.others ≡ l.fn.self.others ++ others_in (spec.in_order_of (take l.definition-index l.definitions)))
