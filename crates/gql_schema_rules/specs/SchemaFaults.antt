-- The faults of a schema by all rules on schemas.
use Rattle.std.specs.Prelude.{Contains}
use Rattle.gql_ast.specs.declared.fault.Fault.{Fault}
use Rattle.gql_ast.specs.declared.files.Files.{Files}
use Rattle.gql_types.specs.Definitions.{of_files}
use Rattle.gql_types.specs.Schemas.{schema_of}
use Rattle.gql_types.specs.declared.schema.Schema.{Schema}
use Rattle.gql_node_rules.specs.Nodes.{AllNodes, nodes_of}
use Rattle.gql_schema_rules.specs.S01DuplicateTypes as s01
use Rattle.gql_schema_rules.specs.S02DuplicateDirectives as s02
use Rattle.gql_node_rules.specs.S03ReservedNames as s03
use Rattle.gql_schema_rules.specs.S04BuiltInNames as s04
use Rattle.gql_schema_rules.specs.S05EmptyTypes as s05
use Rattle.gql_schema_rules.specs.S06DuplicateFields as s06
use Rattle.gql_schema_rules.specs.S07DuplicateValues as s07
use Rattle.gql_schema_rules.specs.S08DuplicateArguments as s08
use Rattle.gql_iface_rules.specs.S09BadInterfaceNames as s09
use Rattle.gql_iface_rules.specs.S10SelfImplementation as s10
use Rattle.gql_iface_rules.specs.S11UndeclaredInterfaces as s11
use Rattle.gql_iface_rules.specs.S12MissingFields as s12
use Rattle.gql_iface_rules.specs.S13MissingArguments as s13
use Rattle.gql_iface_rules.specs.S14ExtraRequiredArguments as s14
use Rattle.gql_iface_rules.specs.S15IncompatibleFieldTypes as s15
use Rattle.gql_node_rules.specs.S16NonInputTypes as s16
use Rattle.gql_iface_rules.specs.S17InputObjectCycles as s17
use Rattle.gql_schema_rules.specs.S18BadDefaultValues as s18
use Rattle.gql_iface_rules.specs.S19DefaultValueCycles as s19
use Rattle.gql_node_rules.specs.S20UnknownTypes as s20
use Rattle.gql_node_rules.specs.S21NonOutputTypes as s21
use Rattle.gql_node_rules.specs.S22NonObjectMembers as s22
use Rattle.gql_schema_rules.specs.S23MissingQueryRoot as s23
use Rattle.gql_schema_rules.specs.S24NonObjectRoots as s24
use Rattle.gql_schema_rules.specs.S25SharedRootTypes as s25
use Rattle.gql_iface_rules.specs.S26DirectiveCycles as s26
use Rattle.gql_schema_rules.specs.S27ExtensionsOfUnknownTypes as s27
use Rattle.gql_schema_rules.specs.S28ExtensionsOfAnotherKind as s28
use Rattle.gql_node_rules.specs.S29UnknownDirectives as s29
use Rattle.gql_node_rules.specs.S30BadLocations as s30
use Rattle.gql_node_rules.specs.S31RepeatedDirectives as s31
use Rattle.gql_node_rules.specs.S32BadArguments as s32
use Rattle.gql_node_rules.specs.S33BadArgumentValues as s33
use Rattle.gql_schema_rules.specs.S34DuplicateSchemas as s34
use Rattle.gql_node_rules.specs.S35DeprecatedRequiredInputs as s35
use Rattle.gql_node_rules.specs.S36MisplacedAppends as s36
use Rattle.gql_node_rules.specs.P01FloatReferences as p01
use Rattle.gql_schema_rules.specs.P02SubscriptionRoots as p02

-- the nodes of the schema files
abbrev pub nodes_in : Files → AllNodes
nodes_in files = nodes_of (of_files files.schema)

-- a fault by one of the rules; s is the schema of the files
pub data FaultsBy (files : Files) (s : Schema) (f : Fault) : Type 0 where
  by_s01 : Contains (s01.faults (nodes_in files)) f → FaultsBy files s f
  by_s02 : Contains (s02.faults (nodes_in files)) f → FaultsBy files s f
  by_s03 : Contains (s03.faults (nodes_in files)) f → FaultsBy files s f
  by_s04 : Contains (s04.faults (nodes_in files)) f → FaultsBy files s f
  by_s05 : Contains (s05.faults s) f → FaultsBy files s f
  by_s06 : Contains (s06.faults s) f → FaultsBy files s f
  by_s07 : Contains (s07.faults s) f → FaultsBy files s f
  by_s08 : Contains (s08.faults s) f → FaultsBy files s f
  by_s09 : Contains (s09.faults s) f → FaultsBy files s f
  by_s10 : Contains (s10.faults s) f → FaultsBy files s f
  by_s11 : Contains (s11.faults s) f → FaultsBy files s f
  by_s12 : Contains (s12.faults s) f → FaultsBy files s f
  by_s13 : Contains (s13.faults s) f → FaultsBy files s f
  by_s14 : Contains (s14.faults s) f → FaultsBy files s f
  by_s15 : Contains (s15.faults s) f → FaultsBy files s f
  by_s16 : Contains (s16.faults (nodes_in files) s) f → FaultsBy files s f
  by_s17 : s17.IsFault s f → FaultsBy files s f
  by_s18 : Contains (s18.faults s) f → FaultsBy files s f
  by_s19 : s19.IsFault s f → FaultsBy files s f
  by_s20 : Contains (s20.faults (nodes_in files) s) f → FaultsBy files s f
  by_s21 : Contains (s21.faults (nodes_in files) s) f → FaultsBy files s f
  by_s22 : Contains (s22.faults (nodes_in files) s) f → FaultsBy files s f
  by_s23 : Contains (s23.faults s) f → FaultsBy files s f
  by_s24 : Contains (s24.faults s) f → FaultsBy files s f
  by_s25 : Contains (s25.faults s) f → FaultsBy files s f
  by_s26 : s26.IsFault s f → FaultsBy files s f
  by_s27 : Contains (s27.faults (nodes_in files) s) f → FaultsBy files s f
  by_s28 : Contains (s28.faults (nodes_in files) s) f → FaultsBy files s f
  by_s29 : Contains (s29.faults (nodes_in files) s) f → FaultsBy files s f
  by_s30 : Contains (s30.faults (nodes_in files) s) f → FaultsBy files s f
  by_s31 : Contains (s31.faults (nodes_in files) s) f → FaultsBy files s f
  by_s32 : Contains (s32.faults (nodes_in files) s) f → FaultsBy files s f
  by_s33 : Contains (s33.faults (nodes_in files) s) f → FaultsBy files s f
  by_s34 : Contains (s34.faults (nodes_in files) s) f → FaultsBy files s f
  by_s35 : Contains (s35.faults (nodes_in files)) f → FaultsBy files s f
  by_s36 : Contains (s36.faults (nodes_in files) s) f → FaultsBy files s f
  by_p01 : Contains (p01.faults (nodes_in files) s) f → FaultsBy files s f
  by_p02 : Contains (p02.faults files s) f → FaultsBy files s f

-- a fault of the schema of these files
abbrev pub IsSchemaFault : Files → Fault → Type 0
IsSchemaFault files f = FaultsBy files (schema_of files) f
