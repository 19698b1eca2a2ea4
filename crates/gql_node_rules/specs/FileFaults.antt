-- The faults of schema files by file: those that the nodes of a file have by themselves, and those
-- of types and of the schema with their extensions, which may be in several files.
use Rattle.std.specs.Prelude.{ℕ, List, [], ◌++◌, flat_map, Contains}
use Rattle.gql_ast.specs.declared.definition.Document.{Document}
use Rattle.gql_ast.specs.declared.fault.Fault.{Fault}
use Rattle.gql_types.specs.Definitions.{in_order_of}
use Rattle.gql_types.specs.declared.schema.Schema.{Schema}
use Rattle.gql_types.specs.declared.schema_type.SchemaType.{SchemaType}
use Rattle.gql_node_rules.specs.Applied.{annotated}
use Rattle.gql_node_rules.specs.NodeFaults.{name_faults, role_faults, reference_faults, built_in_directive_faults}
use Rattle.gql_node_rules.specs.Nodes.{AllNodes, nodes_of}
use Rattle.gql_node_rules.specs.S29UnknownDirectives as s29
use Rattle.gql_node_rules.specs.S30BadLocations as s30
use Rattle.gql_node_rules.specs.S31RepeatedDirectives as s31
use Rattle.gql_node_rules.specs.S32BadArguments as s32
use Rattle.gql_node_rules.specs.S33BadArgumentValues as s33

-- the nodes of a file
abbrev pub nodes_of_file : Document → AllNodes
nodes_of_file d = nodes_of (in_order_of d.definitions)

-- the definitions and extensions, without their parts
abbrev pub definitions_alone : AllNodes → AllNodes
definitions_alone n = record {
  types = n.types;
  type_extensions = n.type_extensions;
  directives = n.directives;
  schemas = n.schemas;
  schema_extensions = n.schema_extensions;
  parts = [];
  fields = [];
  values = [];
  input_fields = [];
  arguments = [];
}

-- the extensions, and the definitions of directives and of the schema, without their parts
abbrev pub without_types : AllNodes → AllNodes
without_types n = record {
  types = [];
  type_extensions = n.type_extensions;
  directives = n.directives;
  schemas = n.schemas;
  schema_extensions = n.schema_extensions;
  parts = [];
  fields = [];
  values = [];
  input_fields = [];
  arguments = [];
}

-- the faults by S31 on one node
abbrev pub repeated_alone : AllNodes → Schema → List Fault
repeated_alone n s = flat_map (s31.faults_alone s) (annotated n)

-- the faults by the rules on applied directives that a node has by itself
abbrev pub directive_faults : AllNodes → Schema → List Fault
directive_faults n s = s29.faults n s ++ (s30.faults n s
    ++ (repeated_alone n s ++ (s32.faults n s ++ s33.faults n s)))

-- the faults that the nodes of a file have by themselves
abbrev pub file_faults : AllNodes → Schema → List Fault
file_faults n s = name_faults n ++ (role_faults n s
    ++ (reference_faults n s ++ (directive_faults n s ++ built_in_directive_faults n s)))

-- the faults of these types with their extensions: those by S31
abbrev pub joint_on_types : Schema → List SchemaType → List Fault
joint_on_types s types = flat_map (s31.faults_of_type s) types

-- the faults of the schema with its extensions: those by S31
abbrev pub joint_on_schema : AllNodes → Schema → List Fault
joint_on_schema n s = s31.faults_of_schema n s

-- the faults of types with their extensions, and of the schema with its own
abbrev pub joint_faults : AllNodes → Schema → List Fault
joint_faults n s = joint_on_types s s.types ++ joint_on_schema n s

-- one of these files has the fault by itself
abbrev pub IsFileFault : List (List ℕ × Document) → Schema → Fault → Type 0
IsFileFault files s f = (file : List ℕ × Document) × Contains files file
    × Contains (file_faults (nodes_of_file file.1) s) f
