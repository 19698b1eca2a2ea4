use Rattle.std.proofs.Common.{◌≡◌, ℕ, List, bytes_eq, option_map, take}
use Rattle.std.specs.HashMap as hash
use Rattle.gql_vars.specs.Variables.{variable_named}
use Rattle.gql_vars.proofs.tables.first_variables.Given as goal

abbrev pub invariant-loop-variable : goal.invariant-loop-variable
invariant-loop-variable l = (q : List ℕ) → option_map (λ v. v.now) (hash.get_by (λ k. bytes_eq q k.now) l.first)
    ≡ variable_named (take l.variable-index l.variables) q
