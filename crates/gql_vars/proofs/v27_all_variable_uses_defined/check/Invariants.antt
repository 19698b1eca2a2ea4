use Rattle.std.proofs.Common.{◌≡◌, ◌++◌, ℕ, List, bytes_eq, flat_map, option_map, take}
use Rattle.std.specs.HashMap as hash
use Rattle.gql_ast.specs.declared.executable.VariableDefinition.{VariableDefinition}
use Rattle.gql_vars.specs.Lists.{undefined, use_of}
use Rattle.gql_vars.specs.Variables.{variable_named}
use Rattle.gql_vars.proofs.v27_all_variable_uses_defined.check.Given as goal

abbrev pub invariant-loop-used : goal.invariant-loop-used
invariant-loop-used l = (variables : List VariableDefinition)
    → ((q : List ℕ) → option_map (λ v. v.now) (hash.get_by (λ k. bytes_eq q k.now) l.first) ≡ variable_named variables q)
    → l.faults.items ≡ l.initial.faults.items ++ flat_map (λ x. undefined l.owner variables (use_of x)) (take l.used-index l.uses)
