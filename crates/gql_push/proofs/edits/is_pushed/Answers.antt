use Rattle.std.proofs.Common.{◌∙◌, Some, None}
use Rattle.gql_push.proofs.Finds.{pushed_as_found}
use Rattle.gql_push.proofs.edits.is_pushed.Goals as goal

pub returns-in-Some : goal.returns-in-Some
returns-in-Some c = c.eq.ensures ∙ pushed_as_found c.args.pushed.now c.args.resource.now c.as_str.result.now (Some c.in-Some.before.now) c.as_str.ensures.value c.in-Some.ensures

pub returns-in-None : goal.returns-in-None
returns-in-None c = pushed_as_found c.args.pushed.now c.args.resource.now c.as_str.result.now None c.as_str.ensures.value c.in-None.ensures
