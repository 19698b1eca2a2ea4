use Rattle.std.proofs.Common.{◌≡◌, ◌++◌, map, string_bytes}
use Rattle.gql_merge.specs.Calls.{with_commas}
use Rattle.gql_merge.proofs.orders.add_once.Given as goal

abbrev pub invariant-loop-text : goal.invariant-loop-text
invariant-loop-text l = string_bytes l.out ++ with_commas (map (λ e. e.0) l.text-iterator)
    ≡ string_bytes l.initial.out ++ with_commas (map (λ e. e.0) l.set.entries)
