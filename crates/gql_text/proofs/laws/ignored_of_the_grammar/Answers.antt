use Rattle.gql_text.proofs.IgnoredRules.{dropped_ignored, ignored_dropped}
use Rattle.gql_text.proofs.laws.ignored_of_the_grammar.Goals as goal

pub returns : goal.returns
returns c text = (λ h. dropped_ignored text h, λ h. ignored_dropped text h)
