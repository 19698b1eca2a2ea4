use Rattle.std.proofs.Common.{rules}
use Rattle.gql_merge.proofs.Cleanness.{last_clean}
use Rattle.gql_merge.proofs.own_fragment.is_known_clean.Goals as goal

pub returns-clause-known : goal.returns-clause-known
returns-clause-known g c = λ known. last_clean (g.W.World.facts c.args.world.now) c.args.clean.now c.args.definition.now _ (search rules) (c.in_ok-is_named.ensures.answer known) (search rules) c.requires
