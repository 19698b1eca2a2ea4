use Rattle.std.proofs.Common.{Contains, List, subst, sym}
use Rattle.gql_facts.specs.declared.fact.FragmentFact.{FragmentFact}
use Rattle.gql_facts.specs.Members.{Lists}
use Rattle.gql_facts.specs.Reads.{Reaches}
use Rattle.gql_facts.specs.Presents.{facts_of_present}
use Rattle.gql_usage.proofs.Reading.{names_are_through, ok_then, reached_is_stored}
use Rattle.gql_usage.proofs.reader.names_through.Goals as goal

pub broken_names-requires-clause-stored : goal.broken_names-requires-clause-stored
broken_names-requires-clause-stored c = λ f h. reached_is_stored (facts_of_present c.args.question.now.present) c.args.question.now.shelf.now.verdicts c.args.definition.now f c.requires.stored
    (c.in_ok-walk.ensures.members.sound f (subst (λ (xs : List FragmentFact). Contains xs f) c.as_slice.ensures.value h))

pub returns-clause-names : goal.returns-clause-names
returns-clause-names c =
    let facts = facts_of_present c.args.question.now.present in
    ok_then c.broken_names.result (λ names. names_are_through facts c.args.question.now.removal.now c.args.definition.now c.as_slice.result.now names.items
    (subst (λ (xs : List FragmentFact). Lists xs (Reaches facts c.args.definition.now)) (sym c.as_slice.ensures.value) c.in_ok-walk.ensures.members))
    c.broken_names.ensures.names
