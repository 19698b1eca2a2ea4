-- The types of a schema, each with its first definition and all extensions of its kind (GraphQL
-- specification, 3.4).
use Rattle.std.specs.Prelude.{List, [], ◌∷◌, ◌&&◌, Bool, not, map, filter, bytes_eq}
use Rattle.gql_ast.specs.declared.type_system.TypeParts.{TypeParts}
use Rattle.gql_ast.specs.declared.type_system.TypeDefinition.{TypeDefinition}
use Rattle.gql_ast.specs.declared.type_system.TypeExtension.{TypeExtension}
use Rattle.gql_types.specs.Kinds.{same_kind}
use Rattle.gql_types.specs.Parts.{kind_of, interfaces_of, fields_of, members_of, values_of, input_fields_of, in_all}
use Rattle.gql_built_in.specs.declared.sited.Sited.{Sited}
use Rattle.gql_types.specs.declared.schema_type.SchemaType.{SchemaType}

-- the first definition of each name, in their order
abbrev pub first_definitions : List (Sited TypeDefinition) → List (Sited TypeDefinition)
first_definitions [] = []
first_definitions (d ∷ ds) = d
    ∷ filter (λ (e : Sited TypeDefinition). not (bytes_eq d.node.name.text e.node.name.text))
    (first_definitions ds)

-- whether an extension has the name and kind of a definition (3.4.3)
abbrev pub extends : Sited TypeDefinition → Sited TypeExtension → Bool
extends d e = bytes_eq d.node.name.text e.node.name.text
    && same_kind (kind_of d.node.parts) (kind_of e.node.parts)

-- the extensions of a definition, among these
abbrev pub extensions_of : List (Sited TypeExtension) → Sited TypeDefinition
    → List (Sited TypeExtension)
extensions_of extensions d = filter (extends d) extensions

-- the parts of a type: those of its definition, then those of its extensions
abbrev pub parts_in : Sited TypeDefinition → List (Sited TypeExtension) → List (Sited TypeParts)
parts_in d extensions = record { file = d.file; node = d.node.parts }
    ∷ map (λ (e : Sited TypeExtension). record { file = e.file; node = e.node.parts }) extensions

-- the type of its first definition and these extensions
abbrev pub assembled : Sited TypeDefinition → List (Sited TypeExtension) → SchemaType
assembled d extensions = record {
  definition = d;
  extensions = extensions;
  kind = kind_of d.node.parts;
  interfaces = in_all interfaces_of (parts_in d extensions);
  fields = in_all fields_of (parts_in d extensions);
  members = in_all members_of (parts_in d extensions);
  values = in_all values_of (parts_in d extensions);
  input_fields = in_all input_fields_of (parts_in d extensions);
}

-- the types of a schema
abbrev pub types_of : List (Sited TypeDefinition) → List (Sited TypeExtension) → List SchemaType
types_of ds extensions = map
    (λ (d : Sited TypeDefinition). assembled d (extensions_of extensions d)) (first_definitions ds)
