use Rattle.std.proofs.Common.{◌≡◌, ◌++◌, map}
use Rattle.gql_types.specs.Definitions as spec
use Rattle.gql_types.specs.Sites.{others_in, site}
use Rattle.gql_types.proofs.gathered.gather.Given as goal

abbrev pub invariant-loop-name : goal.invariant-loop-name
invariant-loop-name l = (map site l.found.types.items ++ spec.type_definitions (spec.of_files l._name-iterator) ≡ spec.type_definitions (l.built_in ++ spec.of_files l.files.schema))
    × (l.found.others ++ others_in (spec.of_files l._name-iterator) ≡ others_in (l.built_in ++ spec.of_files l.files.schema))
