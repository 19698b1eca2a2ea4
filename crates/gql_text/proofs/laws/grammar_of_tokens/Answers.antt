use Rattle.std.proofs.Common.{subst, sym}
use Rattle.gql_text.specs.Laws.{IsToken}
use Rattle.gql_text.proofs.Punctuators.{token_mark, mark_token}
use Rattle.gql_text.proofs.Grammars.{token_name, name_token, token_integer, integer_token, token_float, float_token}
use Rattle.gql_text.proofs.laws.grammar_of_tokens.Goals as goal

pub returns-clause-names : goal.returns-clause-names
returns-clause-names c = λ text. (λ t. token_name text t, λ n. name_token text n)

pub returns-clause-integers : goal.returns-clause-integers
returns-clause-integers c = λ text. (λ t. token_integer text t, λ n. integer_token text n)

pub returns-clause-floats : goal.returns-clause-floats
returns-clause-floats c = λ text. (λ t. token_float text t, λ n. float_token text n)

pub returns-clause-punctuators : goal.returns-clause-punctuators
returns-clause-punctuators c = λ kind marks text e. (λ t. token_mark kind marks text e t, λ same. subst (λ xs. IsToken kind xs) (sym same) (mark_token kind marks e))
