use Rattle.std.proofs.Common.{Ok, Err, sym}
use Rattle.gql_grammar.proofs.Outcomes.{same_allows}
use Rattle.gql_parse.specs.Selections.{set, set_of}
use Rattle.gql_parse.proofs.Rules.{set_is}
use Rattle.gql_parse.proofs.laws.selection_sets.Goals as goal

pub returns-clause-derived : goal.returns-clause-derived
returns-clause-derived c = λ tokens rest selections. (
  λ h. same_allows (set) (set_of set) (λ ts. set_is ts) tokens (Ok (selections, rest)) h,
  λ h. same_allows (set_of set) (set) (λ ts. sym (set_is ts)) tokens (Ok (selections, rest)) h,
)

pub returns-clause-refused : goal.returns-clause-refused
returns-clause-refused c = λ tokens rest. (
  λ h. same_allows (set) (set_of set) (λ ts. set_is ts) tokens (Err rest) h,
  λ h. same_allows (set_of set) (set) (λ ts. sym (set_is ts)) tokens (Err rest) h,
)
