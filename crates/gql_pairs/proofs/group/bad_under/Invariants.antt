use Rattle.std.proofs.Common.{◌≡◌, take}
use Rattle.gql_pairs.specs.Groups.{bad_under}
use Rattle.gql_pairs.proofs.group.bad_under.Given as goal

abbrev pub invariant-loop-clash : goal.invariant-loop-clash
invariant-loop-clash l = l.bad.items ≡ bad_under l.first l.second (take l.clash-index l.clashes)
