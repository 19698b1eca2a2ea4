use Rattle.gql_coerce.proofs.Ending as ending
use Rattle.gql_coerce.proofs.laws.some_outcome.Goals as goal

pub returns : goal.returns
returns c = λ s acyclic x t. ending.some_outcome s acyclic x t
