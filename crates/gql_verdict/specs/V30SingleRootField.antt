-- V30, Single Root Field: a subscription has no root field, root fields of several response names,
-- or one that is an introspection field (GraphQL 5.2.3.1).
-- Reported at each such root field, about its response name; if there is none, at the start of the
-- operation, about its name. The subscription owns the fault, also where the field is in a fragment.
use Rattle.std.specs.Prelude.{[], ◌∷◌, Some}
use Rattle.gql_ast.specs.declared.definition.Definition.{Definition}
use Rattle.gql_ast.specs.declared.fault.Fault.{Fault}
use Rattle.gql_ast.specs.declared.fault.FilePlace.{FilePlace}
use Rattle.gql_ast.specs.declared.fault.FileSide.TheVariants.{Documents}
use Rattle.gql_ast.specs.declared.rule.Rule.TheVariants as rule
use Rattle.gql_facts.specs.Worlds.{Facts}
use Rattle.gql_rules.specs.LocalFaults.{owner_of}
use Rattle.gql_single_root.specs.V30SingleRootField.{IsSingleRootFault}
use Rattle.gql_single_root.specs.declared.fault.RootFault.{RootFault}

-- where the fault is
abbrev pub place_of : RootFault → FilePlace
place_of x = record { side = Documents; file = x.file; place = x.place }

-- the fault as a report has it, where this is its owner
abbrev pub fault_of : FilePlace → RootFault → Fault
fault_of owner x = record {
  rule = rule.V30;
  about = x.about;
  places = place_of x ∷ [];
  owner = Some owner;
}

-- the faults of a definition by V30
pub data IsRootFault (facts : Facts) (d : Definition) : Fault → Type 0 where
  of_root : {x : RootFault} → IsSingleRootFault facts d x
      → IsRootFault facts d (fault_of (owner_of d) x)
