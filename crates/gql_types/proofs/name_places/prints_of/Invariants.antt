use Rattle.std.proofs.Common.{◌≡◌, map, take}
use Rattle.gql_types.specs.Prints.{print_of}
use Rattle.gql_types.proofs.name_places.prints_of.Given as goal

abbrev pub invariant-loop-thing : goal.invariant-loop-thing
invariant-loop-thing g l = l.prints.items ≡ map print_of (map g.T.HasName.name (take l.thing-index l.things))
