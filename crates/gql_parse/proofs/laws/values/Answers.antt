use Rattle.std.proofs.Common.{Ok, Err, sym}
use Rattle.gql_grammar.proofs.Outcomes.{same_allows}
use Rattle.gql_parse.specs.Values.{value, value_of}
use Rattle.gql_parse.proofs.Rules.{value_is}
use Rattle.gql_parse.proofs.laws.values.Goals as goal

pub returns-clause-derived : goal.returns-clause-derived
returns-clause-derived c = λ constant tokens rest literal. (
  λ h. same_allows (value constant) (value_of constant (value constant)) (λ ts. value_is constant ts) tokens (Ok (literal, rest)) h,
  λ h. same_allows (value_of constant (value constant)) (value constant) (λ ts. sym (value_is constant ts)) tokens (Ok (literal, rest)) h,
)

pub returns-clause-refused : goal.returns-clause-refused
returns-clause-refused c = λ constant tokens rest. (
  λ h. same_allows (value constant) (value_of constant (value constant)) (λ ts. value_is constant ts) tokens (Err rest) h,
  λ h. same_allows (value_of constant (value constant)) (value constant) (λ ts. sym (value_is constant ts)) tokens (Err rest) h,
)
