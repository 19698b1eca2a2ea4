use Rattle.std.proofs.Common.{rules}
use Rattle.gql_types.proofs.Once.{asked_step}
use Rattle.gql_types.proofs.among.asked.Goals as goal

pub loop-thing-preserved : goal.loop-thing-preserved
loop-thing-preserved g c = asked_step g.T.HasName.name c.args.names.now c.args.things.now c.loop-thing.thing-index c.thing-item.result _ _ (search rules) (search rules) c.loop-thing.invariant (search rules)
