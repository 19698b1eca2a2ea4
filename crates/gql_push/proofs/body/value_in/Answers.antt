use Rattle.std.proofs.Common.{Some}
use Rattle.serde_json.specs.View.{view}
use Rattle.gql_push.proofs.Bodies.{no_value, text_value}
use Rattle.gql_push.proofs.body.value_in.Goals as goal

pub returns-in_default : goal.returns-in_default
returns-in_default c = no_value c.args.body.now c.in_default.ensures.cases.0

pub returns-in-Ok-from_str : goal.returns-in-Ok-from_str
returns-in-Ok-from_str c =
    text_value c.args.body.now c.in-Ok.text.now (Some (view c.in-Ok-from_str.value)) c.in-Ok.ensures.cases.1 c.in-Ok.ensures.cases.0 c.in-Ok-from_str.ensures.ok
