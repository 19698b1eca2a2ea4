use Rattle.std.proofs.Common.{◌≡◌, map, take}
use Rattle.gql_verdict.proofs.spreads.are_same.Given as goal

abbrev pub invariant-loop-i : goal.invariant-loop-i
invariant-loop-i l = map (λ n. n.now.text) (take l.i l.names) ≡ map (λ n. n.now.text) (take l.i l.others)
