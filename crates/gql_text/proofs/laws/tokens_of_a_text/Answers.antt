use Rattle.std.proofs.Common.{refl}
use Rattle.gql_text.proofs.Tokens.{slices_of, kinds_of}
use Rattle.gql_text.proofs.laws.tokens_of_a_text.Goals as goal

pub returns-clause-slices : goal.returns-clause-slices
returns-clause-slices c = λ limit source tokens h. slices_of source h.tokens_of refl

pub returns-clause-kinds : goal.returns-clause-kinds
returns-clause-kinds c = λ limit source tokens h. kinds_of h.tokens_of
