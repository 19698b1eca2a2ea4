use Rattle.gql_usage.proofs.Observed.{is_unasked_is}
use Rattle.gql_usage.proofs.answered.is_unasked.Goals as goal

pub returns : goal.returns
returns c = is_unasked_is c.args.key.now c.args.shelf.now.verdicts c.has_reader.result (λ t. c.has_reader.ensures.0 t) (λ h. c.has_reader.ensures.1 h)
