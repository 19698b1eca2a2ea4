use Rattle.gql_findings.specs.Causes.{has_cause}
use Rattle.gql_findings.proofs.Gatherings.{gathers_none, no_fault_there}
use Rattle.gql_findings.proofs.grouping.gather_at.Goals as goal

pub returns-in-None : goal.returns-in-None
returns-in-None c = gathers_none (λ m. has_cause c.args.findings.now m c.args.member) c.args.member c.args.keys.now.keys c.args.causes.now.items c.requires
    (λ m. no_fault_there c.args.findings.now c.args.member m c.in-None.ensures.lookup.3)
