-- Helper definitions for private contracts: the names of interfaces of which a type lacks no field.
use Rattle.std.specs.Prelude.{◌≡◌, ℕ, List, [], Bool, true, flat_map, is_some}
use Rattle.gql_ast.specs.declared.type_system.FieldDefinition.{FieldDefinition}
use Rattle.gql_ast.specs.declared.fault.Fault.{Fault}
use Rattle.gql_ast.specs.declared.text.Name.{Name}
use Rattle.gql_built_in.specs.declared.sited.Sited.{Sited}
use Rattle.gql_types.specs.declared.schema.Schema.{Schema}
use Rattle.gql_types.specs.declared.schema_type.SchemaType.{SchemaType}
use Rattle.gql_iface_rules.specs.Implementing.{field_in, implemented_by}
use Rattle.gql_iface_rules.specs.S12MissingFields.{missing_fields}

-- the type has a field of the same name
abbrev pub HasField : SchemaType → Sited FieldDefinition → Type 0
HasField t f = is_some (field_in t.fields f.node.name.text) ≡ true

-- the faults by S12 for a name in the list of a type
abbrev pub missing_by : Schema → SchemaType → Sited Name → List Fault
missing_by s t n = flat_map missing_fields (implemented_by s t n)

-- wherever one of these names is listed, there is no fault by S12 for it
abbrev pub AreSettled : Schema → SchemaType → (List ℕ → Bool) → Type 0
AreSettled s t has = (n : Sited Name) → has n.node.text ≡ true → missing_by s t n ≡ []
