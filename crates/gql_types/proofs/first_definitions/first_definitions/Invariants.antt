use Rattle.std.proofs.Common.{◌≡◌, ℕ, List, map, is_some, bytes_eq, take}
use Rattle.std.specs.HashMap as hash
use Rattle.std.specs.List.{list_any}
use Rattle.gql_ast.specs.declared.type_system.TypeDefinition.{TypeDefinition}
use Rattle.gql_types.specs.Sites.{site}
use Rattle.gql_types.specs.Types.{first_definitions}
use Rattle.gql_built_in.specs.declared.sited.Sited.{Sited}
use Rattle.gql_types.proofs.first_definitions.first_definitions.Given as goal

abbrev pub invariant-loop-definition : goal.invariant-loop-definition
invariant-loop-definition l = ((q : List ℕ) → is_some (hash.get_by (λ k. bytes_eq q k.now) l.seen) ≡ list_any (λ (d : Sited TypeDefinition). bytes_eq q d.node.name.text) (map site (take l.definition-index l.definitions)))
    × (map site l.firsts.items ≡ first_definitions (map site (take l.definition-index l.definitions)))
