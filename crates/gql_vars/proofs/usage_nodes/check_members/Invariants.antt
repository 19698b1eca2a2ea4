use Rattle.std.proofs.Common.{◌≡◌, ◌++◌, ℕ, List, bytes_eq, flat_map, option_map, take}
use Rattle.std.specs.HashMap as hash
use Rattle.gql_ast.specs.declared.executable.VariableDefinition.{VariableDefinition}
use Rattle.gql_vars.specs.Misuses.{misuses_of_member}
use Rattle.gql_vars.specs.Variables.{variable_named}
use Rattle.gql_vars.proofs.usage_nodes.check_members.Given as goal

abbrev pub invariant-loop-member : goal.invariant-loop-member
invariant-loop-member g l =
    let F = g.W.World.facts l.initial.world in
    record {
      same_facts : g.W.World.facts l.world ≡ F;
      same_names : g.W.World.names l.world ≡ g.W.World.names l.initial.world;
      same_lent : g.W.World.lent l.world ≡ g.W.World.lent l.initial.world;
      found : (variables : List VariableDefinition)
          → ((q : List ℕ) → option_map (λ v. v.now) (hash.get_by (λ k. bytes_eq q k.now) l.first) ≡ variable_named variables q)
          → l.faults.items ≡ l.initial.faults.items ++ flat_map (misuses_of_member F l.owner variables) (take l.member-index l.members);
    }
