-- The faults by the rules on interfaces, S09 to S15, and by those on cycles, S17, S19 and S26.
use Rattle.std.specs.Prelude.{List, ◌++◌, Contains}
use Rattle.gql_ast.specs.declared.fault.Fault.{Fault}
use Rattle.gql_iface_rules.specs.S09BadInterfaceNames as s09
use Rattle.gql_iface_rules.specs.S10SelfImplementation as s10
use Rattle.gql_iface_rules.specs.S11UndeclaredInterfaces as s11
use Rattle.gql_iface_rules.specs.S12MissingFields as s12
use Rattle.gql_iface_rules.specs.S13MissingArguments as s13
use Rattle.gql_iface_rules.specs.S14ExtraRequiredArguments as s14
use Rattle.gql_iface_rules.specs.S15IncompatibleFieldTypes as s15
use Rattle.gql_iface_rules.specs.S17InputObjectCycles as s17
use Rattle.gql_iface_rules.specs.S19DefaultValueCycles as s19
use Rattle.gql_iface_rules.specs.S26DirectiveCycles as s26
use Rattle.gql_types.specs.declared.schema.Schema.{Schema}

-- the faults by S09 to S12, as one list
abbrev pub listed_faults : Schema → List Fault
listed_faults s = s09.faults s ++ (s10.faults s ++ (s11.faults s ++ s12.faults s))

-- a fault by one of the rules on interfaces or on cycles
pub data IsInterfaceFault (s : Schema) (f : Fault) : Type 0 where
  by_s09 : Contains (s09.faults s) f → IsInterfaceFault s f
  by_s10 : Contains (s10.faults s) f → IsInterfaceFault s f
  by_s11 : Contains (s11.faults s) f → IsInterfaceFault s f
  by_s12 : Contains (s12.faults s) f → IsInterfaceFault s f
  by_s13 : Contains (s13.faults s) f → IsInterfaceFault s f
  by_s14 : Contains (s14.faults s) f → IsInterfaceFault s f
  by_s15 : Contains (s15.faults s) f → IsInterfaceFault s f
  by_s17 : s17.IsFault s f → IsInterfaceFault s f
  by_s19 : s19.IsFault s f → IsInterfaceFault s f
  by_s26 : s26.IsFault s f → IsInterfaceFault s f
