use Rattle.std.proofs.Common.{◌≡◌, map, take}
use Rattle.gql_intro.proofs.runs.copies.Given as goal

abbrev pub invariant-loop-name : goal.invariant-loop-name
invariant-loop-name l = l.found ≡ map (λ n. n.now) (take l.name-index l.names)
