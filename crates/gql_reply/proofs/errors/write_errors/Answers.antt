use Rattle.std.proofs.Common.{◌++◌, map, false, rules}
use Rattle.serde_json.specs.View.{items_of}
use Rattle.serde_json.specs.Written.{items_text}
use Rattle.gql_steps.specs.Outcomes.{error_of}
use Rattle.gql_reply.specs.ReplyText as spec
use Rattle.gql_reply.proofs.Items.{item_step}
use Rattle.gql_reply.proofs.errors.write_errors.Goals as goal

pub loop-error-preserved : goal.loop-error-preserved
loop-error-preserved c = item_step spec.error error_of c.args.errors.now c.loop-error.error-index
    c.error-item.result c.loop-error.later c.loop-error.out.items c.write_comma.new.out.items
    c.write_error.new.out.items
    (c.args.out.now.items ++ items_text false (items_of (map spec.error (map error_of c.args.errors.now))))
    (search rules) (search rules) c.loop-error.invariant (search rules) (search rules)
