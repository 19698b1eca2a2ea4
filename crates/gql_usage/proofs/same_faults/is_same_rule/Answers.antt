use Rattle.std.proofs.Common.{◌∙◌, rules, sym}
use denote.Enum.Bare.{same_true, true_same}
use Rattle.gql_ast.specs.contracts.rule.Rule.{the_type}
use Rattle.gql_usage.proofs.same_faults.is_same_rule.Goals as goal

pub returns : goal.returns
returns c = (
  λ t. same_true the_type (search rules) _ _ (sym c.eq.ensures ∙ t),
  λ e. c.eq.ensures ∙ true_same the_type _ _ e,
)
