use Rattle.std.proofs.Common.{◌≡◌, map, take}
use Rattle.gql_types.proofs.named_list.have_same_names.Given as goal

abbrev pub invariant-loop-i : goal.invariant-loop-i
invariant-loop-i g l = map g.T.HasName.name (take l.i l.things) ≡ map g.U.HasName.name (take l.i l.others)
