use Rattle.std.proofs.Common.{IfOk, IsTrue, ◌↔◌, subst, Some, None}
use Rattle.gql_usage.specs.Breaks.{Breaks}
use Rattle.gql_facts.specs.Presents.{facts_of_present}
use Rattle.gql_usage.proofs.Breaking.{served, serves}
use Rattle.gql_ast.specs.declared.definition.Definition.{Definition}
use Rattle.gql_usage.proofs.breaks.breaks_definition.Goals as goal

pub breaks-requires-clause-hold : goal.breaks-requires-clause-hold
breaks-requires-clause-hold c =
    let facts = facts_of_present c.args.question.now.present in
    (serves facts c.args.definition.now c.in-Some.verdict.now
    (served facts c.args.question.now.shelf.now.verdicts c.args.definition.now c.in_ok-id.id (Some c.in-Some.verdict.now) c.requires.stored c.in_ok-id.ensures (c.in-Some.ensures.current facts))).holds

pub returns-in-Some-clause-breaks : goal.returns-in-Some-clause-breaks
returns-in-Some-clause-breaks c =
    let facts = facts_of_present c.args.question.now.present in
    let s = serves facts c.args.definition.now c.in-Some.verdict.now
    (served facts c.args.question.now.shelf.now.verdicts c.args.definition.now c.in_ok-id.id (Some c.in-Some.verdict.now) c.requires.stored c.in_ok-id.ensures (c.in-Some.ensures.current facts)) in
    subst (λ (d : Definition). IfOk c.breaks.result (λ b. IsTrue b ↔ Breaks facts c.args.question.now.removal.now d)) s.def c.breaks.ensures.breaks

pub returns-clause-breaks : goal.returns-clause-breaks
returns-clause-breaks c =
    let facts = facts_of_present c.args.question.now.present in
    let s = served facts c.args.question.now.shelf.now.verdicts c.args.definition.now c.in_ok-id.id None c.requires.stored c.in_ok-id.ensures (c.in-None.ensures.current facts) in
    absurd (cc s.1)
