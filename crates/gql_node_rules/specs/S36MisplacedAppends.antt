-- S36, Misplaced Appends: `@append` is on a field that is not one of the mutation root type: this
-- registry's own rule. The fields of a type are those of its first definition and of the extensions
-- of its kind. If the mutation root type is not an object, or there is none, no field is one of it.
-- Reported at the `@` of `@append`, about the field.
use Rattle.std.specs.Prelude.{ℕ, List, [], ◌++◌, ◌&&◌, Bool, false, Option, None, Some, bytes_eq, codes, flat_map, nat_eq, option_and_then, if◌then◌else◌}
use Rattle.std.specs.Option.{option_map_or}
use Rattle.gql_ast.specs.declared.executable.OperationKind.TheVariants as operation
use Rattle.gql_ast.specs.declared.fault.Fault.{Fault}
use Rattle.gql_ast.specs.declared.literal.Directive.{Directive}
use Rattle.gql_ast.specs.declared.rule.Rule.TheVariants as rule
use Rattle.gql_ast.specs.declared.text.Name.{Name}
use Rattle.gql_ast.specs.declared.type_system.FieldDefinition.{FieldDefinition}
use Rattle.gql_ast.specs.declared.type_system.TypeDefinition.{TypeDefinition}
use Rattle.gql_ast.specs.declared.type_system.TypeExtension.{TypeExtension}
use Rattle.gql_ast.specs.declared.type_system.TypeParts.{TypeParts}
use Rattle.gql_built_in.specs.declared.sited.Sited.{Sited}
use Rattle.gql_faults.specs.Faults.{fault_at, own_name_of}
use Rattle.gql_types.specs.Kinds.{same_kind}
use Rattle.gql_types.specs.Parts.{fields_of, sited}
use Rattle.gql_types.specs.Schemas.{root_of, type_named}
use Rattle.gql_types.specs.Types.{extends}
use Rattle.gql_types.specs.declared.kind.TypeKind.TheVariants as kind
use Rattle.gql_types.specs.declared.roots.Root.{Root}
use Rattle.gql_types.specs.declared.schema.Schema.{Schema}
use Rattle.gql_types.specs.declared.schema_type.SchemaType.{SchemaType}
use Rattle.gql_node_rules.specs.Nodes.{AllNodes}

-- ---- the mutation root type

-- this type, if it is an object
abbrev pub if_object : SchemaType → Option SchemaType
if_object t = if same_kind t.kind kind.Object then Some t else None

-- the mutation root type, if the schema has one and it is an object
abbrev pub mutation_root : Schema → Option SchemaType
mutation_root s = option_and_then if_object
    (option_and_then (λ (r : Root). type_named s r.name.node.text) (root_of s operation.Mutation))

-- whether two definitions are in the same file; a built-in definition is in none
abbrev pub is_same_file : Option (List ℕ) → Option (List ℕ) → Bool
is_same_file (Some file) (Some other) = bytes_eq file other
is_same_file (Some file) None = false
is_same_file None other = false

-- whether two names are the same name in the same place
abbrev pub is_same_name : Sited Name → Sited Name → Bool
is_same_name a b = bytes_eq a.node.text b.node.text
    && (is_same_file a.file b.file && nat_eq a.node.place.offset b.node.place.offset)

-- the name of a definition of a type
abbrev pub name_of : Sited TypeDefinition → Sited Name
name_of d = own_name_of (λ (x : TypeDefinition). x.name) d

-- whether a definition is that of the mutation root type, and not a second one of its name
abbrev pub is_definition_of : Option SchemaType → Sited TypeDefinition → Bool
is_definition_of root d =
    option_map_or (λ (t : SchemaType). is_same_name (name_of t.definition) (name_of d)) root false

-- whether an extension is one of the mutation root type
abbrev pub is_extension_of : Option SchemaType → Sited TypeExtension → Bool
is_extension_of root e = option_map_or (λ (t : SchemaType). extends t.definition e) root false

-- ---- the faults

-- the fault of a directive on a field
abbrev pub fault_of_directive : Sited FieldDefinition → Directive → List Fault
fault_of_directive f d = if bytes_eq (codes "append") d.name.text then
    fault_at rule.S36 f.node.name.text (record { file = f.file; node = d.place }) else []

-- the faults of a field that is not one of the mutation root type
abbrev pub faults_of_field : Sited FieldDefinition → List Fault
faults_of_field f = flat_map (fault_of_directive f) f.node.directives

-- the faults of the fields of another definition or extension
abbrev pub faults_of_parts : Option (List ℕ) → TypeParts → List Fault
faults_of_parts file p = flat_map faults_of_field (sited file (fields_of p))

-- the faults of a definition of a type
abbrev pub faults_of_definition : Option SchemaType → Sited TypeDefinition → List Fault
faults_of_definition root d =
    if is_definition_of root d then [] else faults_of_parts d.file d.node.parts

-- the faults of an extension of a type
abbrev pub faults_of_extension : Option SchemaType → Sited TypeExtension → List Fault
faults_of_extension root e =
    if is_extension_of root e then [] else faults_of_parts e.file e.node.parts

-- the faults by S36
abbrev pub faults : AllNodes → Schema → List Fault
faults n s = flat_map (faults_of_definition (mutation_root s)) n.types
    ++ flat_map (faults_of_extension (mutation_root s)) n.type_extensions
