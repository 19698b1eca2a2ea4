-- Possible types: which objects a value of a composite type may be (GraphQL specification, 3.7 and
-- 3.8).
use Rattle.std.specs.Prelude.{ℕ, List, [], ◌∷◌, Bool, false, map, filter, flat_map, fold, bytes_eq}
use Rattle.std.specs.List.{list_any}
use Rattle.std.specs.BTreeMap.{insert_entry}
use Rattle.gql_ast.specs.FileMaps.{name_order}
use Rattle.gql_ast.specs.declared.text.Name.{Name}
use Rattle.gql_types.specs.declared.kind.TypeKind.{TypeKind}
use Rattle.gql_types.specs.declared.kind.TypeKind.TheVariants as kind
use Rattle.gql_types.specs.declared.schema_type.SchemaType.{SchemaType}
use Rattle.gql_built_in.specs.declared.sited.Sited.{Sited}
use Rattle.gql_types.specs.declared.possible.PossibleTypes.{PossibleTypes}

-- the name of a type
abbrev pub name_of : SchemaType → List ℕ
name_of t = t.definition.node.name.text

-- whether a type is an object that declares the interface of this name
abbrev pub declares : TypeKind → List (Sited Name) → List ℕ → Bool
declares kind.Object interfaces interface =
    list_any (λ (i : Sited Name). bytes_eq interface i.node.text) interfaces
declares kind.Scalar interfaces interface = false
declares kind.Interface interfaces interface = false
declares kind.Union interfaces interface = false
declares kind.Enum interfaces interface = false
declares kind.InputObject interfaces interface = false

-- the objects that declare the interface of this name (3.7)
abbrev pub objects_of : List SchemaType → List ℕ → List (List ℕ)
objects_of types interface =
    map name_of (filter (λ (t : SchemaType). declares t.kind t.interfaces interface) types)

-- an ordered map with these names as its keys
abbrev pub entries_of : List (List ℕ) → List (List ℕ × Unit {0})
entries_of names = fold
    (λ (entries : List (List ℕ × Unit {0})) (n : List ℕ). insert_entry name_order entries n tt)
    [] names

-- these names, each once, in the order of their bytes
abbrev pub in_order : List (List ℕ) → List (List ℕ)
in_order names = map (λ (e : List ℕ × Unit {0}). e.0) (entries_of names)

-- The possible types of a composite type: an object itself, the objects that declare an interface
-- (`declaring`), or the members of a union.
abbrev pub possible_by : TypeKind → (List ℕ → List (List ℕ)) → SchemaType → List PossibleTypes
possible_by kind.Object declaring t = record { of_type = name_of t; types = name_of t ∷ [] } ∷ []
possible_by kind.Interface declaring t =
    record { of_type = name_of t; types = in_order (declaring (name_of t)) } ∷ []
possible_by kind.Union declaring t = record
    { of_type = name_of t; types = in_order (map (λ (m : Sited Name). m.node.text) t.members) } ∷ []
possible_by kind.Scalar declaring t = []
possible_by kind.Enum declaring t = []
possible_by kind.InputObject declaring t = []

-- the possible types of all composite types
abbrev pub all_possible : List SchemaType → List PossibleTypes
all_possible types = flat_map (λ (t : SchemaType). possible_by t.kind (objects_of types) t) types
