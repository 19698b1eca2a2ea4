use Rattle.std.proofs.Common.{◌≡◌, take}
use Rattle.gql_pairs.specs.Groups.{MembersHold}
use Rattle.gql_pairs.proofs.sweep.all_hold.Given as goal

abbrev pub invariant-loop-member : goal.invariant-loop-member
invariant-loop-member g l =
    let F = g.W.World.facts l.fn.world in
    record {
      same_facts : g.W.World.facts l.world ≡ F;
      same_names : g.W.World.names l.world ≡ g.W.World.names l.fn.world;
      same_lent : g.W.World.lent l.world ≡ g.W.World.lent l.fn.world;
      hold : MembersHold F (take l.member-index l.members);
    }
