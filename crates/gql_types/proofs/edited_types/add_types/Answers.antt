use Rattle.std.proofs.Common.{rules}
use Rattle.gql_types.specs.Sites.{site}
use Rattle.gql_types.proofs.EditedTypes.{made_next}
use Rattle.gql_types.proofs.edited_types.add_types.Goals as goal

pub loop-definition-preserved : goal.loop-definition-preserved
loop-definition-preserved c = λ sites start.
    made_next c.args.edit.now site c.args.definitions.now c.loop-definition.definition-index c.definition-item.result sites c.args.list.now c.loop-definition.list c.add_type.new.list
    (search rules) (search rules) (c.loop-definition.invariant sites) c.in_ok-add_type.ensures start
