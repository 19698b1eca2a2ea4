use Rattle.gql_types.specs.Written.{written}
use Rattle.gql_steps.proofs.resolve.taken.Goals as goal

pub returns-in_ok-first_kept-clause-of : goal.returns-in_ok-first_kept-clause-of
returns-in_ok-first_kept-clause-of c = c.found_or_null.ensures.of (written c.args.of_type.now)
