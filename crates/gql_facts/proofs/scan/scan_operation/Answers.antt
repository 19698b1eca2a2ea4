use Rattle.gql_facts.proofs.Entering.{scanned_operation}
use Rattle.gql_facts.proofs.Failing.{on_error, operation_in_part, operation_failed}
use Rattle.gql_facts.proofs.scan.scan_operation.Goals as goal

pub returns-clause-scanned : goal.returns-clause-scanned
returns-clause-scanned g c = scanned_operation (g.W.World.facts c.args.world.now) c.args.operation.now c.as_slice.ensures c.as_slice-2.ensures c.as_slice-3.ensures
    c.in_ok-fact.ensures.answer c.in_ok-root.ensures c.in_ok-fact.ensures.facts c.in_ok-parent.ensures.parent c.in_ok-parent.ensures.facts c.in_ok-fact.ensures.scanned
    c.in_ok-parent.ensures.scanned c.in_ok-keep_directives.ensures c.in_ok-keep_variables.ensures c.in_ok-scan_set.ensures.scanned

pub returns-in_err-parent-clause-failed : goal.returns-in_err-parent-clause-failed
returns-in_err-parent-clause-failed g c = on_error c.from_residual-in_err-parent.result (operation_in_part (g.W.World.facts c.args.world.now) c.args.operation.now c.in_ok-fact.ensures.answer c.in_ok-root.ensures c.in_ok-fact.ensures.facts
    c.in_ok-fact.ensures.scanned.records c.in_err-parent.ensures.failed)

pub returns-in_err-keep_directives-clause-failed : goal.returns-in_err-keep_directives-clause-failed
returns-in_err-keep_directives-clause-failed g c = on_error c.from_residual-in_err-keep_directives.result (operation_in_part (g.W.World.facts c.args.world.now) c.args.operation.now c.in_ok-fact.ensures.answer c.in_ok-root.ensures c.in_ok-fact.ensures.facts
    c.in_ok-fact.ensures.scanned.records c.in_ok-parent.ensures.scanned.records)

pub returns-in_err-keep_variables-clause-failed : goal.returns-in_err-keep_variables-clause-failed
returns-in_err-keep_variables-clause-failed g c = on_error c.from_residual-in_err-keep_variables.result (operation_in_part (g.W.World.facts c.args.world.now) c.args.operation.now c.in_ok-fact.ensures.answer c.in_ok-root.ensures c.in_ok-fact.ensures.facts
    c.in_ok-fact.ensures.scanned.records c.in_ok-parent.ensures.scanned.records)

pub returns-in_err-scan_set-clause-failed : goal.returns-in_err-scan_set-clause-failed
returns-in_err-scan_set-clause-failed g c = on_error c.from_residual-in_err-scan_set.result (operation_failed (g.W.World.facts c.args.world.now) c.args.operation.now c.as_slice-3.ensures
    c.in_ok-fact.ensures.answer c.in_ok-root.ensures c.in_ok-fact.ensures.facts c.in_ok-parent.ensures.parent c.in_ok-parent.ensures.facts
    c.in_ok-fact.ensures.scanned.records c.in_ok-parent.ensures.scanned.records c.in_err-scan_set.ensures.failed)
