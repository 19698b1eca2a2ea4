use Rattle.std.proofs.Common.{◌↔◌, IfOk, IsTrue, subst, sym}
use Rattle.gql_ast.specs.declared.definition.Definition.{Definition}
use Rattle.gql_facts.specs.Presents.{facts_of_present}
use Rattle.gql_usage.specs.Breaks.{Breaks}
use Rattle.gql_usage.specs.Stored.{IsStored}
use Rattle.gql_usage.proofs.reader.breaks_fragment.Goals as goal

pub breaks_definition-requires-clause-stored : goal.breaks_definition-requires-clause-stored
breaks_definition-requires-clause-stored c = subst (λ (d : Definition). IsStored (facts_of_present c.args.question.now.present) c.args.question.now.shelf.now.verdicts d)
    (sym c.in_ok-definition.ensures) c.requires.stored

pub returns-clause-breaks : goal.returns-clause-breaks
returns-clause-breaks c = subst (λ (d : Definition). IfOk c.breaks_definition.result (λ b. IsTrue b ↔ Breaks (facts_of_present c.args.question.now.present) c.args.question.now.removal.now d))
    c.in_ok-definition.ensures c.breaks_definition.ensures.breaks
