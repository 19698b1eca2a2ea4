use Rattle.std.proofs.Common.{◌≡◌, map, take}
use Rattle.gql_types.specs.Names.{are_among}
use Rattle.gql_types.proofs.among.asked.Given as goal

abbrev pub invariant-loop-thing : goal.invariant-loop-thing
invariant-loop-thing g l = l.marks.items ≡ are_among l.names (map g.T.HasName.name (take l.thing-index l.things))
