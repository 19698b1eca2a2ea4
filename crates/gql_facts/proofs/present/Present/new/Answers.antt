use Rattle.std.proofs.Common.{ap, ◌∙◌}
use Rattle.gql_facts.specs.Tables.{kept_fact, tables_of}
use Rattle.gql_facts.proofs.Kept.{tables_answer}
use Rattle.gql_facts.proofs.present.Present.new.Goals as goal

pub returns-clause-answers : goal.returns-clause-answers
returns-clause-answers c = λ s documents e f. λ i. λ k.
    (ap (λ t. kept_fact t c.args.fragments.now.all k) e ∙ ap (λ fs. kept_fact (tables_of s) fs k) f ∙ tables_answer s documents k) i
