-- P02, Subscription Roots: the schema has a subscription root, where subscriptions are not served
-- (this registry's own rule).
-- Reported at the type's name, about the type.
use Rattle.std.specs.Prelude.{List, [], flat_map, if◌then◌else◌}
use Rattle.gql_ast.specs.declared.executable.OperationKind.TheVariants.{Subscription}
use Rattle.gql_ast.specs.declared.fault.Fault.{Fault}
use Rattle.gql_ast.specs.declared.files.Files.{Files}
use Rattle.gql_ast.specs.declared.rule.Rule.TheVariants as rule
use Rattle.gql_faults.specs.Faults.{fault_of}
use Rattle.gql_types.specs.Kinds.{same_operation}
use Rattle.gql_types.specs.declared.roots.Root.{Root}
use Rattle.gql_types.specs.declared.schema.Schema.{Schema}

-- the fault of a root operation type
abbrev pub fault_of_root : Root → List Fault
fault_of_root r = if same_operation r.kind Subscription then fault_of rule.P02 r.name else []

-- the faults by P02; the profile of the files says whether subscriptions are served
abbrev pub faults : Files → Schema → List Fault
faults files s = if files.profile.subscriptions then [] else flat_map fault_of_root s.roots
