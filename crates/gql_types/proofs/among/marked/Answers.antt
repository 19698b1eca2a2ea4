use Rattle.std.proofs.Common.{rules}
use Rattle.gql_types.proofs.Once.{marked_step}
use Rattle.gql_types.proofs.among.marked.Goals as goal

pub loop-name-preserved : goal.loop-name-preserved
loop-name-preserved g c = marked_step g.T.HasName.name c.args.names.now c.args.things.now c.loop-name.name-index c.name-item.result c.as_str.result.now _ _ _
    c.requires.once (search rules) (search rules) c.loop-name.invariant c.mark.ensures c.place_of.ensures c.as_str.ensures
