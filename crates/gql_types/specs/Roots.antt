-- The root operation types of a schema (GraphQL specification, 3.3.1).
use Rattle.std.specs.Prelude.{ℕ, List, [], ◌∷◌, ◌++◌, map, flat_map, find, Option, None, Some, codes, bytes_eq}
use Rattle.std.specs.Option.{option_map_or}
use Rattle.gql_ast.specs.declared.executable.OperationKind.{OperationKind}
use Rattle.gql_ast.specs.declared.executable.OperationKind.TheVariants.{Query, Mutation, Subscription}
use Rattle.gql_ast.specs.declared.type_system.RootOperation.{RootOperation}
use Rattle.gql_ast.specs.declared.type_system.SchemaDefinition.{SchemaDefinition}
use Rattle.gql_ast.specs.declared.type_system.SchemaExtension.{SchemaExtension}
use Rattle.gql_types.specs.declared.roots.Root.{Root}
use Rattle.gql_types.specs.declared.schema_type.SchemaType.{SchemaType}
use Rattle.gql_built_in.specs.declared.sited.Sited.{Sited}

-- the root operation types that a definition or an extension of the schema lists
abbrev pub entries : Option (List ℕ) → List RootOperation → List Root
entries file roots = map (λ (r : RootOperation). record {
  kind = r.kind;
  entry = Some r.place;
  name = record { file = file; node = r.name };
}) roots

-- the root operation type of this kind, without an entry, if a type has this name
abbrev pub implied : List SchemaType → OperationKind → List ℕ → List Root
implied types kind text = option_map_or (λ (t : SchemaType). record {
  kind = kind;
  entry = None;
  name = record { file = t.definition.file; node = t.definition.node.name };
} ∷ [])
    (find (λ (t : SchemaType). bytes_eq text t.definition.node.name.text) types) []

-- the root operation types of a schema without a definition: the types of these names
abbrev pub all_implied : List SchemaType → List Root
all_implied types = implied types Query (codes "Query")
    ++ (implied types Mutation (codes "Mutation")
    ++ implied types Subscription (codes "Subscription"))

-- the root operation types that the first definition of the schema lists; without one, the implied
-- ones
abbrev pub defined : List SchemaType → List (Sited SchemaDefinition) → List Root
defined types [] = all_implied types
defined types (s ∷ ss) = entries s.file s.node.roots

-- the root operation types of a schema: of its definition, and then of its extensions (3.3.2)
abbrev pub roots_of : List SchemaType → List (Sited SchemaDefinition) → List (Sited SchemaExtension)
    → List Root
roots_of types definitions extensions = defined types definitions
    ++ flat_map (λ (e : Sited SchemaExtension). entries e.file e.node.roots) extensions
