use Rattle.std.proofs.Common.{◌≡◌, ◌++◌, map, string_bytes}
use Rattle.gql_merge.specs.Calls.{with_commas}
use Rattle.gql_merge.proofs.orders.add_ordered.Given as goal

abbrev pub invariant-loop-key : goal.invariant-loop-key
invariant-loop-key l = string_bytes l.out ++ with_commas (map (λ e. e.0.0) l.key-iterator)
    ≡ string_bytes l.initial.out ++ with_commas (map (λ e. e.0.0) l.set.entries)
