use Rattle.std.proofs.Common.{◌≡◌, ◌++◌, map, take}
use Rattle.gql_verdict.specs.Spreads.{set_spreads}
use Rattle.gql_verdict.proofs.spreads.+selections.Given as goal

abbrev pub invariant-add_set_spreads-loop-selection : goal.invariant-add_set_spreads-loop-selection
invariant-add_set_spreads-loop-selection l = map (λ n. n.now.text) l.names.items
    ≡ map (λ n. n.now.text) l.initial.names.items ++ set_spreads (take l.selection-index l.set)
