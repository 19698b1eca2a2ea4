use Rattle.std.proofs.Common.{◌≡◌, ℕ, List, take, unwrap_or, bytes_eq, count_by, string_bytes}
use Rattle.std.specs.HashMap as hash
use Rattle.gql_stored.specs.declared.effect.Effect.{Effect}
use Rattle.gql_stored.proofs.counts.counts_of.Given as goal

abbrev pub invariant-loop-effect : goal.invariant-loop-effect
invariant-loop-effect l = (q : List ℕ) → unwrap_or (hash.get_by (λ k. bytes_eq q k.now) l.counts) 0
    ≡ count_by (λ (e : Effect). bytes_eq q (string_bytes e.to)) (take l.effect-index l.effects)
