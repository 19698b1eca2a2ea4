use Rattle.std.proofs.Common.{◌≡◌, ℕ, List, take, bytes_eq, unwrap_or, true, false}
use Rattle.std.specs.HashMap as hash
use Rattle.gql_rules.specs.V10RequiredArguments.{is_lacking, is_given_null}
use Rattle.gql_rules.proofs.v10_required_arguments.nulls.Given as goal

abbrev pub invariant-loop-argument : goal.invariant-loop-argument
invariant-loop-argument l = record {
  lacking : (q : List ℕ) → unwrap_or (hash.get_by (λ k. bytes_eq q k.now) l.nulls) true ≡ is_lacking (take l.argument-index l.given) q;
  null : (q : List ℕ) → unwrap_or (hash.get_by (λ k. bytes_eq q k.now) l.nulls) false ≡ is_given_null (take l.argument-index l.given) q;
}
