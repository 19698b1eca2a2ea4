use Rattle.std.proofs.Common.{◌≡◌, map, take}
use Rattle.gql_vars.specs.Lists.{use_of, uses_in}
use Rattle.gql_vars.proofs.selections.uses_in.Given as goal

abbrev pub invariant-loop-member : goal.invariant-loop-member
invariant-loop-member l = map use_of l.uses.items ≡ uses_in l.definition (take l.member-index l.members)
