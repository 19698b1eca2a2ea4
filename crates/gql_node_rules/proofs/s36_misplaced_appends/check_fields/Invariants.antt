use Rattle.std.proofs.Common.{◌≡◌, ◌++◌, flat_map, take}
use Rattle.std.specs.Prelude.{Some}
use Rattle.gql_types.specs.Parts.{sited}
use Rattle.gql_node_rules.specs.S36MisplacedAppends.{faults_of_field}
use Rattle.gql_node_rules.proofs.s36_misplaced_appends.check_fields.Given as goal

abbrev pub invariant-loop-field : goal.invariant-loop-field
invariant-loop-field l = l.faults.items ≡ l.initial.faults.items
    ++ flat_map faults_of_field (sited (Some l.file) (take l.field-index l.fields))
