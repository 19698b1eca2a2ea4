use Rattle.std.proofs.Common.{◌∙◌, ap}
use Rattle.gql_readers.specs.Orders.{is_id}
use Rattle.gql_readers.proofs.Noting.{last_is}
use Rattle.gql_readers.proofs.changes.ends_with.Goals as goal

pub returns-in-Some : goal.returns-in-Some
returns-in-Some c = c.is_same.ensures ∙ ap (λ x. is_id x c.args.id.now) c.get.ensures
    ∙ last_is c.args.ids.now c.args.id.now c.in-Some.last.now c.in-Some.ensures.value
