use Rattle.std.proofs.Common.{◌≡◌, ◌++◌, flat_map, take}
use Rattle.std.specs.Option.{option_copied}
use Rattle.gql_rules.specs.KnownInputs.{known_inputs}
use Rattle.gql_rules.specs.V18ToV21Values.{faults_of_argument}
use Rattle.gql_rules.proofs.v18_to_v21_values.check.Given as goal

abbrev pub invariant-loop-argument : goal.invariant-loop-argument
invariant-loop-argument g l =
    let F = g.W.World.facts l.initial.world in
    record {
      same_facts : g.W.World.facts l.world ≡ F;
      same_names : g.W.World.names l.world ≡ g.W.World.names l.initial.world;
      same_lent : g.W.World.lent l.world ≡ g.W.World.lent l.initial.world;
      found : l.faults.items ≡ l.initial.faults.items
          ++ flat_map (faults_of_argument (known_inputs F) l.owner (option_copied l.known)) (take l.argument-index l.given);
    }
