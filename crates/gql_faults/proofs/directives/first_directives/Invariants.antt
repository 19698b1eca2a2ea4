use Rattle.std.proofs.Common.{◌≡◌, ℕ, List, map, is_some, bytes_eq, take}
use Rattle.std.specs.HashMap as hash
use Rattle.std.specs.List.{list_any}
use Rattle.gql_ast.specs.declared.type_system.DirectiveDefinition.{DirectiveDefinition}
use Rattle.gql_faults.specs.Directives.{first_directives}
use Rattle.gql_built_in.specs.declared.sited.Sited.{Sited}
use Rattle.gql_faults.proofs.directives.first_directives.Given as goal

abbrev pub invariant-loop-definition : goal.invariant-loop-definition
invariant-loop-definition l = ((q : List ℕ) → is_some (hash.get_by (λ k. bytes_eq q k.now) l.seen) ≡ list_any (λ (d : Sited DirectiveDefinition). bytes_eq q d.node.name.text) (take l.definition-index l.definitions))
    × (map (λ d. d.now) l.firsts.items ≡ first_directives (take l.definition-index l.definitions))
