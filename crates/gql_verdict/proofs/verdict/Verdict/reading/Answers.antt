use Rattle.std.proofs.Common.{subst}
use Rattle.gql_verdict.specs.Verdicts.{AreReadsOf, Judgement}
use Rattle.gql_verdict.proofs.verdict.Verdict.reading.Goals as goal

pub returns-clause-keys : goal.returns-clause-keys
returns-clause-keys c = subst (λ (v : Judgement). AreReadsOf v.def v.observations) c.self.view_is c.self.invariant.keys
