-- Helper definitions for private contracts: what is looked up once for several rules.
use Rattle.std.specs.Prelude.{List, [], ◌++◌, ◌||◌, Bool, Option, bytes_eq, find, is_some, map, flat_map, option_map, if◌then◌else◌}
use Rattle.gql_ast.specs.declared.fault.Fault.{Fault}
use Rattle.gql_ast.specs.declared.rule.Rule.{Rule}
use Rattle.gql_ast.specs.declared.rule.Rule.TheVariants as rule
use Rattle.gql_ast.specs.declared.text.Name.{Name}
use Rattle.gql_ast.specs.declared.type_system.DirectiveDefinition.{DirectiveDefinition}
use Rattle.gql_built_in.specs.declared.sited.Sited.{Sited}
use Rattle.gql_faults.specs.Faults.{fault_at, fault_of, where_known}
use Rattle.gql_faults.specs.Places.{named}
use Rattle.gql_types.specs.Kinds.{is_input, is_output, same_kind}
use Rattle.gql_types.specs.Schemas.{kind_named}
use Rattle.gql_types.specs.declared.kind.TypeKind.{TypeKind}
use Rattle.gql_types.specs.declared.kind.TypeKind.TheVariants as kind
use Rattle.gql_types.specs.declared.schema.Schema.{Schema}
use Rattle.gql_node_rules.specs.Applied.{Application, name_of, place_of}
use Rattle.gql_node_rules.specs.Borrowed.{application}
use Rattle.gql_node_rules.specs.Nodes.{AllNodes}
use Rattle.gql_node_rules.specs.P01FloatReferences as p01
use Rattle.gql_node_rules.specs.References as references
use Rattle.gql_node_rules.specs.declared.references.Reference.{Reference}
use Rattle.gql_node_rules.specs.declared.references.References.{References}
use Rattle.gql_node_rules.specs.declared.resolved.Resolved.{Resolved}

-- an applied directive, and its definition if it is known
pub record Resolution : Type 0 where
  pub application : Application
  pub known : Option (Sited DirectiveDefinition)

-- one that the code borrows
abbrev pub resolution : Resolved → Resolution
resolution r = record {
  application = application r.applied;
  known = option_map (λ g. g.now.definition.now) r.signature;
}

-- an applied directive with the first of these definitions that has its name
abbrev pub resolved_by : List (Sited DirectiveDefinition) → Application → Resolution
resolved_by definitions a = record {
  application = a;
  known = find (λ (d : Sited DirectiveDefinition). bytes_eq (name_of a) d.node.name.text)
      definitions;
}

-- the fault by S29 of an applied directive
abbrev pub undefined : Resolution → List Fault
undefined r = if is_some r.known then []
    else fault_at rule.S29 (name_of r.application) (place_of r.application)

-- a reference to a type, and the kind of that type if it is known
pub record TypeReference : Type 0 where
  pub name : Sited Name
  pub kind : Option TypeKind

-- one that the code borrows
abbrev pub reference : Reference → TypeReference
reference r = record { name = named r.name; kind = r.kind }

-- a reference with the kind of its type
abbrev pub with_kind : Schema → Sited Name → TypeReference
with_kind s n = record { name = n; kind = kind_named s n.node.text }

-- the references to types, by the role that the type has
pub record Roles : Type 0 where
  pub inputs : List TypeReference
  pub outputs : List TypeReference
  pub interfaces : List TypeReference
  pub members : List TypeReference
  pub roots : List TypeReference

-- those that the code borrows
abbrev pub roles : References → Roles
roles r = record {
  inputs = map reference r.inputs.items;
  outputs = map reference r.outputs.items;
  interfaces = map reference r.interfaces.items;
  members = map reference r.members.items;
  roots = map reference r.roots.items;
}

-- those of all nodes
abbrev pub roles_of : AllNodes → Schema → Roles
roles_of n s = record {
  inputs = map (with_kind s) (references.inputs n);
  outputs = map (with_kind s) (references.outputs n);
  interfaces = map (with_kind s) (references.interfaces n);
  members = map (with_kind s) (references.members n);
  roots = map (with_kind s) (references.roots n);
}

-- the fault of a reference to a type that is not of the right kind, if it is known
abbrev pub of_wrong_kind : (TypeKind → Bool) → Rule → TypeReference → List Fault
of_wrong_kind is_right rule r = where_known r.kind
    (λ (k : TypeKind). if is_right k then [] else fault_of rule r.name)

-- the faults of references by S16, S21 and S22
abbrev pub role_faults : Roles → List Fault
role_faults r = flat_map (of_wrong_kind is_input rule.S16) r.inputs
    ++ (flat_map (of_wrong_kind is_output rule.S21) r.outputs
    ++ flat_map (of_wrong_kind (λ k. same_kind k kind.Object) rule.S22) r.members)

-- the fault of a reference by S20
abbrev pub unknown : TypeReference → List Fault
unknown r = if is_some r.kind || p01.is_float r.name.node.text then [] else fault_of rule.S20 r.name

-- the fault of a reference by P01
abbrev pub to_float : TypeReference → List Fault
to_float r = if is_some r.kind then [] else p01.fault_of_unknown r.name

-- the faults of all references by one rule
abbrev pub of_all : (TypeReference → List Fault) → Roles → List Fault
of_all fault r = flat_map fault r.inputs ++ (flat_map fault r.outputs
    ++ (flat_map fault r.interfaces ++ (flat_map fault r.members ++ flat_map fault r.roots)))
