use Rattle.std.proofs.Common.{rules}
use Rattle.std.specs.Prelude.{IsTrue}
use Rattle.gql_pairs.proofs.covering.group_of_members.Goals as goal

pub clean_group-requires-clause-clean : goal.clean_group-requires-clause-clean
clean_group-requires-clause-clean g c =
    let yes : IsTrue c.args.are_clean = search rules in
    (g.W.World.facts c.args.world.now, c.requires.hold, c.requires.clean yes)
