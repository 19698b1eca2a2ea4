use Rattle.std.proofs.Common.{◌≡◌, ◌++◌}
use Rattle.gql_schema_rules.specs.OtherFaults.{faults_in}
use Rattle.gql_schema_rules.proofs.kept_faults.add_checked.Given as goal

abbrev pub invariant-loop-name : goal.invariant-loop-name
invariant-loop-name l = l.all.items ++ faults_in l._name-iterator ≡ l.initial.all.items ++ faults_in l.checks
