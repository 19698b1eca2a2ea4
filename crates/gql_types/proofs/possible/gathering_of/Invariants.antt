use Rattle.std.proofs.Common.{◌≡◌, map, take}
use Rattle.gql_types.specs.Abstracts.{abstract_types}
use Rattle.gql_types.specs.Declarations.{declarations, pair}
use Rattle.gql_types.proofs.possible.gathering_of.Given as goal

abbrev pub invariant-loop-place : goal.invariant-loop-place
invariant-loop-place l = (map pair l.found.declarations.items ≡ declarations (take l.place l.types))
    × (map (λ t. t.now) l.found.abstracts.items ≡ abstract_types (take l.place l.types))
