use Rattle.gql_intro.proofs.EveryNode as nodes
use Rattle.gql_intro.proofs.laws.answers_have_their_types.Goals as goal

pub returns : goal.returns
returns c = nodes.answers_have_their_types
