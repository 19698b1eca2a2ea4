use Rattle.std.proofs.Common.{map, subst}
use Rattle.gql_found.specs.Findings.{IsFinding}
use Rattle.gql_found.proofs.Lists.{zip_more}
use Rattle.gql_found.proofs.finding.findings_of.Goals as goal

pub loop-fault-preserved : goal.loop-fault-preserved
loop-fault-preserved c =
    let is_of = IsFinding c.args.sources.now c.args.files.now (map (λ d. d.now) c.args.definitions.now) in
    zip_more is_of c.args.faults.now c.loop-fault.findings.items _ c.loop-fault.fault-index c.fault-item.result c.in_ok-finding_of.field-0
    c.loop-fault-test.true c.fault-item.is c.loop-fault.invariant (subst (λ f. is_of f c.in_ok-finding_of.field-0) c.get.ensures c.in_ok-finding_of.ensures) c.in_ok-push.ensures.items
