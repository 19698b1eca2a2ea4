use Rattle.std.proofs.Common.{◌≡◌, ◌++◌, map, flat_map, take}
use Rattle.gql_schema_rules.specs.S18BadDefaultValues.{faults_of_directive}
use Rattle.gql_schema_rules.proofs.s18_bad_default_values.check_directives.Given as goal

abbrev pub invariant-loop-directive : goal.invariant-loop-directive
invariant-loop-directive l = l.faults.items
    ≡ l.initial.faults.items ++ flat_map (faults_of_directive l.schema) (map (λ d. d.now) (take l.directive-index l.directives))
