use Rattle.std.proofs.Common.{◌≡◌, bytes_eq, take}
use Rattle.std.specs.HashMap as hash
use Rattle.gql_merge.specs.Flattened.{AddsMembers}
use Rattle.gql_merge.proofs.flatten.add_members.Given as goal

abbrev pub invariant-loop-member : goal.invariant-loop-member
invariant-loop-member g l =
    let F = g.W.World.facts l.initial.world in
    record {
      same_facts : g.W.World.facts l.world ≡ F;
      same_names : g.W.World.names l.world ≡ g.W.World.names l.initial.world;
      same_lent : g.W.World.lent l.world ≡ g.W.World.lent l.initial.world;
      added : AddsMembers F (take l.member-index l.members) l.initial.sets.items l.sets.items (λ q. hash.get_by (λ k. bytes_eq q k.now) l.numbers);
    }
