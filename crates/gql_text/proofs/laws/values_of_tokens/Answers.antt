use Rattle.std.proofs.Common.{refl}
use Rattle.gql_text.proofs.Quoted.{string_within, block_within, other_within}
use Rattle.gql_text.proofs.laws.values_of_tokens.Goals as goal

pub returns-clause-strings : goal.returns-clause-strings
returns-clause-strings c = λ text t. string_within t refl

pub returns-clause-blocks : goal.returns-clause-blocks
returns-clause-blocks c = λ text t. block_within t refl

pub returns-clause-others : goal.returns-clause-others
returns-clause-others c = λ text kind w v t. other_within kind w v t refl
