use Rattle.std.proofs.Common.{◌≡◌, ◌++◌, take}
use Rattle.std.specs.Option.{option_copied}
use Rattle.gql_vars.specs.Misuses.{argument_misuses}
use Rattle.gql_vars.proofs.usages.check_arguments.Given as goal

abbrev pub invariant-loop-argument : goal.invariant-loop-argument
invariant-loop-argument g l =
    let F = g.W.World.facts l.initial.world in
    record {
      same_facts : g.W.World.facts l.world ≡ F;
      same_names : g.W.World.names l.world ≡ g.W.World.names l.initial.world;
      same_lent : g.W.World.lent l.world ≡ g.W.World.lent l.initial.world;
      found : l.faults.items ≡ l.initial.faults.items
          ++ argument_misuses F l.check (option_copied l.known) (take l.argument-index l.given);
    }
