use Rattle.std.proofs.Common.{◌≡◌, map, take}
use Rattle.gql_types.specs.Names.{are_among}
use Rattle.gql_types.proofs.among.marked.Given as goal

abbrev pub invariant-loop-name : goal.invariant-loop-name
invariant-loop-name g l = l.marks.items ≡ are_among (take l.name-index l.names) (map g.T.HasName.name l.things)
