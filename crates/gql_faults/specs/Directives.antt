-- The directives of a schema, each by its first definition (GraphQL 3.13).
use Rattle.std.specs.Prelude.{List, [], ◌∷◌, not, filter, bytes_eq}
use Rattle.gql_ast.specs.declared.type_system.DirectiveDefinition.{DirectiveDefinition}
use Rattle.gql_built_in.specs.declared.sited.Sited.{Sited}

-- the first definition of each name, in their order
abbrev pub first_directives : List (Sited DirectiveDefinition) → List (Sited DirectiveDefinition)
first_directives [] = []
first_directives (d ∷ ds) =
    d ∷ filter (λ (e : Sited DirectiveDefinition). not (bytes_eq d.node.name.text e.node.name.text))
    (first_directives ds)
