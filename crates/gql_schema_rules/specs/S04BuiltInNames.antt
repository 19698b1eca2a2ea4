-- S04, Built-In Names: a built-in scalar or directive, or Float, is defined again (GraphQL 3.3; on
-- directives this registry's own rule).
-- Reported at the name in the definition, about the name.
use Rattle.std.specs.Prelude.{ℕ, List, [], ◌++◌, Bool, true, bytes_eq, flat_map, if◌then◌else◌}
use Rattle.std.specs.List.{list_any}
use Rattle.gql_ast.specs.declared.fault.Fault.{Fault}
use Rattle.gql_ast.specs.declared.rule.Rule.TheVariants as rule
use Rattle.gql_ast.specs.declared.text.Name.{Name}
use Rattle.gql_ast.specs.declared.type_system.TypeDefinition.{TypeDefinition}
use Rattle.gql_ast.specs.declared.type_system.DirectiveDefinition.{DirectiveDefinition}
use Rattle.gql_built_in.specs.declared.sited.Sited.{Sited}
use Rattle.gql_built_in.specs.BuiltIn as built_in
use Rattle.gql_faults.specs.Faults.{fault_of}
use Rattle.gql_node_rules.specs.Nodes.{AllNodes, each}

-- whether a name is that of a built-in scalar, or `Float`, which is one where it is served
abbrev pub is_scalar_name : List ℕ → Bool
is_scalar_name name =
    list_any (λ (d : TypeDefinition). bytes_eq name d.name.text) (built_in.scalars true)

-- whether a name is that of a built-in directive
abbrev pub is_directive_name : List ℕ → Bool
is_directive_name name =
    list_any (λ (d : DirectiveDefinition). bytes_eq name d.name.text) built_in.directives

-- the fault at the name of a type
abbrev pub fault_of_type : Sited Name → List Fault
fault_of_type n = if is_scalar_name n.node.text then fault_of rule.S04 n else []

-- the fault at the name of a directive
abbrev pub fault_of_directive : Sited Name → List Fault
fault_of_directive n = if is_directive_name n.node.text then fault_of rule.S04 n else []

-- the faults by S04
abbrev pub faults : AllNodes → List Fault
faults n = flat_map fault_of_type (each (λ (d : TypeDefinition). d.name) n.types)
    ++ flat_map fault_of_directive (each (λ (d : DirectiveDefinition). d.name) n.directives)
