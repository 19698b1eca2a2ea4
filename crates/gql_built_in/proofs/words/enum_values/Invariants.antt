use Rattle.std.proofs.Common.{◌≡◌, map, take}
use Rattle.gql_built_in.specs.BuiltInWords.{enum_value}
use Rattle.gql_built_in.proofs.words.enum_values.Given as goal

abbrev pub invariant-names : goal.invariant-names
invariant-names l = l.values ≡ map enum_value (map (λ n. n.now) (take l.name-index l.names))
