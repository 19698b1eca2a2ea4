-- The names that schema files define (GraphQL 3.3 to 3.13). An extension of a type counts: its name
-- is that of the type.
use Rattle.std.specs.Prelude.{List, ◌++◌}
use Rattle.gql_ast.specs.declared.text.Name.{Name}
use Rattle.gql_ast.specs.declared.type_system.TypeDefinition.{TypeDefinition}
use Rattle.gql_ast.specs.declared.type_system.TypeExtension.{TypeExtension}
use Rattle.gql_ast.specs.declared.type_system.DirectiveDefinition.{DirectiveDefinition}
use Rattle.gql_ast.specs.declared.type_system.FieldDefinition.{FieldDefinition}
use Rattle.gql_ast.specs.declared.type_system.EnumValueDefinition.{EnumValueDefinition}
use Rattle.gql_ast.specs.declared.type_system.InputValueDefinition.{InputValueDefinition}
use Rattle.gql_built_in.specs.declared.sited.Sited.{Sited}
use Rattle.gql_node_rules.specs.Nodes.{AllNodes, each}

-- the names of types and their extensions, and of directives
abbrev pub definition_names : AllNodes → List (Sited Name)
definition_names n = each (λ (d : TypeDefinition). d.name) n.types
    ++ (each (λ (e : TypeExtension). e.name) n.type_extensions
    ++ each (λ (d : DirectiveDefinition). d.name) n.directives)

-- the names of fields, arguments, input fields and enum values
abbrev pub part_names : AllNodes → List (Sited Name)
part_names n = each (λ (f : FieldDefinition). f.name) n.fields
    ++ (each (λ (a : InputValueDefinition). a.name) n.arguments
    ++ (each (λ (f : InputValueDefinition). f.name) n.input_fields
    ++ each (λ (v : EnumValueDefinition). v.name) n.values))

-- all names that schema files define
abbrev pub defined_names : AllNodes → List (Sited Name)
defined_names n = definition_names n ++ part_names n
