use Rattle.gql_facts.proofs.Entering.{entered_field}
use Rattle.gql_facts.proofs.Failing.{on_error, field_in_part, field_failed}
use Rattle.gql_facts.proofs.scan.enter_field.Goals as goal

pub returns-clause-scanned : goal.returns-clause-scanned
returns-clause-scanned g c = entered_field (g.W.World.facts c.args.world.now) c.args.parent.now c.args.name.now c.in-Some.is c.in_ok-copy.ensures c.in_ok-copy-2.ensures
    c.in_ok-fact.ensures.facts c.in_ok-fact.ensures.answer c.in_ok-of_type.ensures c.in_ok-fact.ensures.scanned c.in_ok-below.ensures.scanned

pub returns-in_err-of_type-clause-failed : goal.returns-in_err-of_type-clause-failed
returns-in_err-of_type-clause-failed g c = on_error c.from_residual-in_err-of_type.result (field_in_part (g.W.World.facts c.args.world.now) c.args.parent.now c.args.name.now _ _ _ c.in-Some.is
    c.in_ok-copy.ensures c.in_ok-copy-2.ensures c.in_ok-fact.ensures.scanned.records)

pub returns-in_err-below-clause-failed : goal.returns-in_err-below-clause-failed
returns-in_err-below-clause-failed g c = on_error c.from_residual-in_err-below.result (field_failed (g.W.World.facts c.args.world.now) c.args.parent.now c.args.name.now c.in-Some.is
    c.in_ok-copy.ensures c.in_ok-copy-2.ensures c.in_ok-fact.ensures.facts c.in_ok-fact.ensures.answer c.in_ok-of_type.ensures
    c.in_ok-fact.ensures.scanned.records c.in_err-below.ensures.failed)

pub returns-in_err-fact-clause-failed : goal.returns-in_err-fact-clause-failed
returns-in_err-fact-clause-failed g c = on_error c.from_residual-in_err-fact.result (field_in_part (g.W.World.facts c.args.world.now) c.args.parent.now c.args.name.now _ _ _ c.in-Some.is
    c.in_ok-copy.ensures c.in_ok-copy-2.ensures c.in_err-fact.ensures.failed)
