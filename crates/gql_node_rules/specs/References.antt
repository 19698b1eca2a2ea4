-- The references to types (GraphQL 3.3 to 3.13), by the role that the type has there.
use Rattle.std.specs.Prelude.{List, ◌++◌, map}
use Rattle.gql_ast.specs.declared.text.Name.{Name}
use Rattle.gql_ast.specs.declared.type_system.FieldDefinition.{FieldDefinition}
use Rattle.gql_ast.specs.declared.type_system.InputValueDefinition.{InputValueDefinition}
use Rattle.gql_ast.specs.declared.type_system.RootOperation.{RootOperation}
use Rattle.gql_ast.specs.declared.type_system.SchemaDefinition.{SchemaDefinition}
use Rattle.gql_ast.specs.declared.type_system.SchemaExtension.{SchemaExtension}
use Rattle.gql_built_in.specs.declared.sited.Sited.{Sited}
use Rattle.gql_faults.specs.TypeNames.{name_in}
use Rattle.gql_types.specs.Parts.{interfaces_of, members_of}
use Rattle.gql_node_rules.specs.Nodes.{AllNodes, each, within}

-- the types of arguments and of input fields (3.6.1, 3.10)
abbrev pub inputs : AllNodes → List (Sited Name)
inputs n = each (λ (a : InputValueDefinition). name_in a.of_type) n.arguments
    ++ each (λ (f : InputValueDefinition). name_in f.of_type) n.input_fields

-- the types of the fields of objects and interfaces (3.6, 3.7)
abbrev pub outputs : AllNodes → List (Sited Name)
outputs n = each (λ (f : FieldDefinition). name_in f.of_type) n.fields

-- the interfaces that types implement (3.6, 3.7)
abbrev pub interfaces : AllNodes → List (Sited Name)
interfaces n = within interfaces_of n.parts

-- the members of unions (3.8)
abbrev pub members : AllNodes → List (Sited Name)
members n = within members_of n.parts

-- the names of the types in a list of root operation types
abbrev pub types_in : List RootOperation → List Name
types_in roots = map (λ (r : RootOperation). r.name) roots

-- the root operation types of definitions and extensions of the schema (3.3.1, 3.3.2)
abbrev pub roots : AllNodes → List (Sited Name)
roots n = within (λ (s : SchemaDefinition). types_in s.roots) n.schemas
    ++ within (λ (e : SchemaExtension). types_in e.roots) n.schema_extensions

-- all references
abbrev pub references : AllNodes → List (Sited Name)
references n = inputs n ++ (outputs n ++ (interfaces n ++ (members n ++ roots n)))
