use Rattle.std.proofs.Common.{◌≡◌, map, take}
use Rattle.gql_types.specs.Held.{one}
use Rattle.gql_types.specs.Parts.{in_all}
use Rattle.gql_types.proofs.parts.all_held.Given as goal

abbrev pub invariant-loop-part : goal.invariant-loop-part
invariant-loop-part g l = l.found.items ≡ in_all g.T.Held.held (map one (take l.part-index l.parts))
