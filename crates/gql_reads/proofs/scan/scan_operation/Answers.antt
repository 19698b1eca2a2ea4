use Rattle.std.proofs.Common.{None, ◌∙◌}
use Rattle.gql_facts.proofs.Entering.{scanned_operation}
use Rattle.gql_facts.proofs.Scanning.{kept_scan}
use Rattle.gql_reads.proofs.scan.scan_operation.Goals as goal

pub returns-clause-asked : goal.returns-clause-asked
returns-clause-asked g c =
    let F = g.W.World.facts c.args.world.now in
    (scanned_operation F c.args.operation.now c.as_slice.ensures c.as_slice-2.ensures c.as_slice-3.ensures
    c.in_ok-fact.ensures.answer c.in_ok-root.ensures c.in_ok-fact.ensures.facts c.in_ok-parent.ensures.parent
    (c.in_ok-note_variables.ensures.facts ∙ c.in_ok-note_directives.ensures.facts ∙ c.in_ok-parent.ensures.facts) (kept_scan F None c.in_ok-fact.ensures.asked)
    (kept_scan _ None c.in_ok-parent.ensures.asked) c.in_ok-note_directives.ensures.asked c.in_ok-note_variables.ensures.asked (kept_scan _ None c.in_ok-scan_set.ensures.asked)).keys
