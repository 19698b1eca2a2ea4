use Rattle.std.proofs.Common.{None, Some, rules, ◌∙◌}
use Rattle.indexmap.specs.IndexMap.{keys}
use Rattle.gql_facts.proofs.Entering.{scanned_fragment}
use Rattle.gql_facts.proofs.Scanning.{kept_scan}
use Rattle.gql_reads.proofs.scan.scan_fragment.Goals as goal

pub returns-clause-asked : goal.returns-clause-asked
returns-clause-asked g c =
    let F = g.W.World.facts c.args.world.now in
    (scanned_fragment F c.args.fragment.now {o = Some c.in_ok-copy.field-0} {K = keys c.args.answers.now} c.as_slice.ensures c.as_slice-2.ensures (search rules)
    (c.in_ok-note_directives.ensures.facts ∙ c.in_ok-parent.ensures.facts) c.in_ok-parent.ensures.parent (kept_scan F None c.in_ok-parent.ensures.asked) c.in_ok-note_directives.ensures.asked
    (kept_scan _ None c.in_ok-scan_set.ensures.asked)).keys
