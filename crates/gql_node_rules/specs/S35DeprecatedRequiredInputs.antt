-- S35, Deprecated Required Inputs: a required argument or input field is deprecated. Editions of
-- GraphQL after October 2021 have this rule (there 3.13.3).
-- Reported at the `@` of `@deprecated`, about the argument or the input field.
use Rattle.std.specs.Prelude.{List, [], ◌++◌, bytes_eq, codes, flat_map, if◌then◌else◌}
use Rattle.gql_ast.specs.declared.fault.Fault.{Fault}
use Rattle.gql_ast.specs.declared.literal.Directive.{Directive}
use Rattle.gql_ast.specs.declared.rule.Rule.TheVariants as rule
use Rattle.gql_ast.specs.declared.type_system.InputValueDefinition.{InputValueDefinition}
use Rattle.gql_built_in.specs.declared.sited.Sited.{Sited}
use Rattle.gql_faults.specs.Faults.{fault_at}
use Rattle.gql_faults.specs.TypeNames.{is_required}
use Rattle.gql_node_rules.specs.Nodes.{AllNodes}

-- the fault of a directive on a required argument or input field
abbrev pub fault_of_directive : Sited InputValueDefinition → Directive → List Fault
fault_of_directive v d = if bytes_eq (codes "deprecated") d.name.text then
    fault_at rule.S35 v.node.name.text (record { file = v.file; node = d.place }) else []

-- the faults of an argument or an input field
abbrev pub faults_of_input : Sited InputValueDefinition → List Fault
faults_of_input v =
    if is_required v.node then flat_map (fault_of_directive v) v.node.directives else []

-- the faults by S35
abbrev pub faults : AllNodes → List Fault
faults n = flat_map faults_of_input n.arguments ++ flat_map faults_of_input n.input_fields
