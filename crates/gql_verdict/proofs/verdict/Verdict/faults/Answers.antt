use Rattle.std.proofs.Common.{subst}
use Rattle.gql_verdict.specs.Verdicts.{Judgement, IsCertificate}
use Rattle.gql_verdict.proofs.verdict.Verdict.faults.Goals as goal

pub returns-clause-certificate : goal.returns-clause-certificate
returns-clause-certificate c = subst (λ (v : Judgement). IsCertificate v.def v.faults v.observations) c.self.view_is c.self.invariant.certificate
