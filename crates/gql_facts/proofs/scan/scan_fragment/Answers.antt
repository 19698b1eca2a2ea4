use Rattle.std.proofs.Common.{rules, Some}
use Rattle.gql_facts.proofs.Entering.{scanned_fragment}
use Rattle.gql_facts.proofs.Failing.{on_error, fragment_in_part, fragment_failed}
use Rattle.gql_facts.proofs.scan.scan_fragment.Goals as goal

pub returns-clause-scanned : goal.returns-clause-scanned
returns-clause-scanned g c = scanned_fragment (g.W.World.facts c.args.world.now) c.args.fragment.now {o = Some c.in_ok-copy.field-0} c.as_slice.ensures c.as_slice-2.ensures (search rules)
    c.in_ok-parent.ensures.facts c.in_ok-parent.ensures.parent c.in_ok-parent.ensures.scanned c.in_ok-keep_directives.ensures c.in_ok-scan_set.ensures.scanned

pub returns-in_err-keep_directives-clause-failed : goal.returns-in_err-keep_directives-clause-failed
returns-in_err-keep_directives-clause-failed g c = on_error c.from_residual-in_err-keep_directives.result
    (fragment_in_part (g.W.World.facts c.args.world.now) c.args.fragment.now {o = Some c.in_ok-copy.field-0} (search rules) c.in_ok-parent.ensures.scanned.records)

pub returns-in_err-scan_set-clause-failed : goal.returns-in_err-scan_set-clause-failed
returns-in_err-scan_set-clause-failed g c = on_error c.from_residual-in_err-scan_set.result (fragment_failed (g.W.World.facts c.args.world.now) c.args.fragment.now {o = Some c.in_ok-copy.field-0} c.as_slice-2.ensures (search rules)
    c.in_ok-parent.ensures.facts c.in_ok-parent.ensures.parent c.in_ok-parent.ensures.scanned.records c.in_err-scan_set.ensures.failed)
