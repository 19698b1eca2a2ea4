use Rattle.std.proofs.Common.{◌≡◌, take}
use Rattle.gql_cycles.specs.Inside.{ends_inside}
use Rattle.gql_cycles.proofs.nodes.ends_inside.Given as goal

abbrev pub invariant-loop-end : goal.invariant-loop-end
invariant-loop-end l = l.found.items ≡ ends_inside l.count (take l.end-index l.ends)
