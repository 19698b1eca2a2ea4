use Rattle.std.proofs.Common.{◌≡◌, ◌++◌, ℕ, List, [], map, filter, bytes_eq, take}
use Rattle.std.specs.Option.{option_map_or}
use Rattle.std.specs.HashMap as hash
use Rattle.gql_types.specs.declared.roots.Root.{Root}
use Rattle.gql_schema_rules.specs.EarlierRoots.{with_earlier}
use Rattle.gql_schema_rules.specs.S25SharedRootTypes.{faults_of_root}
use Rattle.gql_schema_rules.specs.RootGroups.{key}
use Rattle.gql_schema_rules.proofs.s25_shared_root_types.check.Given as goal

abbrev pub invariant-loop-root : goal.invariant-loop-root
invariant-loop-root l = ((q : List ℕ) → option_map_or (λ group. map (λ x. x.now) group.items) (hash.get_by_text l.groups q) []
    ≡ filter (λ (r : Root). bytes_eq q (key r)) (take l.root-index l.schema.roots))
    × (l.faults.items ≡ l.initial.faults.items ++ with_earlier (faults_of_root l.schema) [] (take l.root-index l.schema.roots))
