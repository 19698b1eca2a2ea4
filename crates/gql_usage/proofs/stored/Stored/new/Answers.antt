use Rattle.std.proofs.Common.{◌∙◌, ap}
use Rattle.gql_facts.proofs.Kept.{tables_answer}
use Rattle.gql_facts.specs.Tables.{kept_fact, tables_of}
use Rattle.gql_usage.proofs.stored.Stored.new.Goals as goal

pub returns-clause-facts : goal.returns-clause-facts
returns-clause-facts c = λ i. λ k.
    (ap (λ t. kept_fact t c.in_ok-new-2.field-0.all k) c.in_ok-new.ensures ∙ ap (λ fs. kept_fact (tables_of c.args.schema.now) fs k) c.in_ok-new-2.ensures
    ∙ tables_answer c.args.schema.now c.args.files.now.documents k) i
