-- The faults by the rules on the nodes of schema files: S03, S16, S20 to S22, S29 to S33, S35, S36
-- and P01.
use Rattle.std.specs.Prelude.{List, ◌++◌}
use Rattle.gql_ast.specs.declared.fault.Fault.{Fault}
use Rattle.gql_types.specs.declared.schema.Schema.{Schema}
use Rattle.gql_node_rules.specs.Nodes.{AllNodes}
use Rattle.gql_node_rules.specs.P01FloatReferences as p01
use Rattle.gql_node_rules.specs.S03ReservedNames as s03
use Rattle.gql_node_rules.specs.S16NonInputTypes as s16
use Rattle.gql_node_rules.specs.S20UnknownTypes as s20
use Rattle.gql_node_rules.specs.S21NonOutputTypes as s21
use Rattle.gql_node_rules.specs.S22NonObjectMembers as s22
use Rattle.gql_node_rules.specs.S29UnknownDirectives as s29
use Rattle.gql_node_rules.specs.S30BadLocations as s30
use Rattle.gql_node_rules.specs.S31RepeatedDirectives as s31
use Rattle.gql_node_rules.specs.S32BadArguments as s32
use Rattle.gql_node_rules.specs.S33BadArgumentValues as s33
use Rattle.gql_node_rules.specs.S35DeprecatedRequiredInputs as s35
use Rattle.gql_node_rules.specs.S36MisplacedAppends as s36

-- the faults by the rule on names
abbrev pub name_faults : AllNodes → List Fault
name_faults n = s03.faults n

-- the faults by the rules on references to types of one role
abbrev pub role_faults : AllNodes → Schema → List Fault
role_faults n s = s16.faults n s ++ (s21.faults n s ++ s22.faults n s)

-- the faults by the rules on all references to types
abbrev pub reference_faults : AllNodes → Schema → List Fault
reference_faults n s = s20.faults n s ++ p01.faults n s

-- the faults by the rules on applied directives
abbrev pub directive_faults : AllNodes → Schema → List Fault
directive_faults n s = s29.faults n s ++ (s30.faults n s
    ++ (s31.faults n s ++ (s32.faults n s ++ s33.faults n s)))

-- the faults by the rules on `@deprecated` and `@append`
abbrev pub built_in_directive_faults : AllNodes → Schema → List Fault
built_in_directive_faults n s = s35.faults n ++ s36.faults n s

-- the faults by all these rules
abbrev pub node_faults : AllNodes → Schema → List Fault
node_faults n s = name_faults n ++ (role_faults n s
    ++ (reference_faults n s ++ (directive_faults n s ++ built_in_directive_faults n s)))
