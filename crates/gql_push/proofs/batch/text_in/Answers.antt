use Rattle.serde_json.specs.View.{view}
use Rattle.gql_push.proofs.Bodies.{no_text, text_of}
use Rattle.gql_push.proofs.batch.text_in.Goals as goal

pub returns-in_ok-try_from_str-in-Ok : goal.returns-in_ok-try_from_str-in-Ok
returns-in_ok-try_from_str-in-Ok c =
    text_of c.args.bytes.now c.in-Ok.text.now (view c.in_ok-try_from_str-in-Ok.field-0) c.in-Ok.ensures.cases.1 c.in-Ok.ensures.cases.0 c.in_ok-try_from_str-in-Ok.ensures

pub returns-in-Err : goal.returns-in-Err
returns-in-Err c = no_text c.args.bytes.now c.in-Err.ensures.cases.0
