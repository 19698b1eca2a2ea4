-- Helper definitions for private contracts: pairs of an interface and an object, one for each
-- declaration.
use Rattle.std.specs.Prelude.{ℕ, List, [], map, flat_map}
use Rattle.gql_ast.specs.declared.text.Name.{Name}
use Rattle.gql_built_in.specs.declared.sited.Sited.{Sited}
use Rattle.gql_types.specs.Possible.{name_of}
use Rattle.gql_types.specs.declared.kind.TypeKind.{TypeKind}
use Rattle.gql_types.specs.declared.kind.TypeKind.TheVariants as kind
use Rattle.gql_types.specs.declared.possible.Declaration.{Declaration}
use Rattle.gql_types.specs.declared.schema_type.SchemaType.{SchemaType}

-- a borrowed declaration, as the names of the interface and the object
abbrev pub pair : Declaration → List ℕ × List ℕ
pair d = (d.interface.now, d.object.now)

-- the declarations of a type, if it is an object
abbrev pub declared_by : TypeKind → List ℕ → List (Sited Name) → List (List ℕ × List ℕ)
declared_by kind.Object object interfaces =
    map (λ (i : Sited Name). (i.node.text, object)) interfaces
declared_by kind.Scalar object interfaces = []
declared_by kind.Interface object interfaces = []
declared_by kind.Union object interfaces = []
declared_by kind.Enum object interfaces = []
declared_by kind.InputObject object interfaces = []

-- the declarations of all objects
abbrev pub declarations : List SchemaType → List (List ℕ × List ℕ)
declarations types =
    flat_map (λ (t : SchemaType). declared_by t.kind (name_of t) t.interfaces) types
