use Rattle.std.proofs.Common.{Ok, Err, sym}
use Rattle.gql_grammar.proofs.Outcomes.{same_allows}
use Rattle.gql_parse.specs.Types.{type_ref, type_ref_of}
use Rattle.gql_parse.proofs.Rules.{type_ref_is}
use Rattle.gql_parse.proofs.laws.types.Goals as goal

pub returns-clause-derived : goal.returns-clause-derived
returns-clause-derived c = λ tokens rest reference. (
  λ h. same_allows (type_ref) (type_ref_of type_ref) (λ ts. type_ref_is ts) tokens (Ok (reference, rest)) h,
  λ h. same_allows (type_ref_of type_ref) (type_ref) (λ ts. sym (type_ref_is ts)) tokens (Ok (reference, rest)) h,
)

pub returns-clause-refused : goal.returns-clause-refused
returns-clause-refused c = λ tokens rest. (
  λ h. same_allows (type_ref) (type_ref_of type_ref) (λ ts. type_ref_is ts) tokens (Err rest) h,
  λ h. same_allows (type_ref_of type_ref) (type_ref) (λ ts. sym (type_ref_is ts)) tokens (Err rest) h,
)
