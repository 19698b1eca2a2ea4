use Rattle.std.proofs.Common.{◌≡◌, ◌++◌, ℕ, List, bytes_eq, flat_map, map, option_map, take}
use Rattle.std.specs.HashMap as hash
use Rattle.gql_vars.specs.Lists.{unused, use_of}
use Rattle.gql_vars.specs.Variables.{variable_named}
use Rattle.gql_vars.proofs.v28_all_variables_used.check.Given as goal

abbrev pub invariant-loop-variable : goal.invariant-loop-variable
invariant-loop-variable l =
    ((q : List ℕ) → option_map (λ v. v.now) (hash.get_by (λ k. bytes_eq q k.now) l.first) ≡ variable_named l.variables q)
    → l.faults.items ≡ l.initial.faults.items ++ flat_map (unused l.owner l.variables (map use_of l.uses)) (take l.variable-index l.variables)
