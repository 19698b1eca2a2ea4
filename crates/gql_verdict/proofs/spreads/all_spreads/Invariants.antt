use Rattle.std.proofs.Common.{◌≡◌, map, take}
use Rattle.gql_verdict.specs.Spreads.{spreads_in}
use Rattle.gql_verdict.proofs.spreads.all_spreads.Given as goal

abbrev pub invariant-loop-definition : goal.invariant-loop-definition
invariant-loop-definition l = map (λ n. n.now.text) l.names.items
    ≡ spreads_in (map (λ d. d.now) (take l.definition-index l.definitions))
