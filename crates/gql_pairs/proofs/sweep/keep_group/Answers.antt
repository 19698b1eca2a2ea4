use Rattle.std.proofs.Common.{◌≡◌, [], refl, rules}
use Rattle.gql_pairs.proofs.Entries.{group_left}
use Rattle.gql_pairs.proofs.sweep.keep_group.Goals as goal

pub returns-else-not-has_none-clause-kept : goal.returns-else-not-has_none-clause-kept
returns-else-not-has_none-clause-kept g c =
    let none : c.in_ok-kept.kept.members ≡ [] = search rules in
    group_left (g.W.World.facts c.args.world.now) c.args.group.now c.in_ok-kept.kept c.in_ok-kept.ensures.kept none c.args.groups.now.items c.args.groups.now.items refl
