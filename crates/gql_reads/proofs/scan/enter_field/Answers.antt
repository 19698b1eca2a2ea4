use Rattle.std.proofs.Common.{None}
use Rattle.gql_facts.proofs.Entering.{entered_field}
use Rattle.gql_facts.proofs.Scanning.{kept_scan}
use Rattle.gql_reads.proofs.scan.enter_field.Goals as goal

pub returns-clause-asked : goal.returns-clause-asked
returns-clause-asked g c =
    let F = g.W.World.facts c.args.world.now in
    (entered_field F c.args.parent.now c.args.name.now c.in-Some.is c.in_ok-copy.ensures c.in_ok-copy-2.ensures
    c.in_ok-fact.ensures.facts c.in_ok-fact.ensures.answer c.in_ok-of_type.ensures (kept_scan F None c.in_ok-fact.ensures.asked) (kept_scan _ None c.in_ok-below.ensures.asked)).keys
