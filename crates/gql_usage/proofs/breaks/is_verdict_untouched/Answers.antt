use Rattle.std.proofs.Common.{List, subst}
use Rattle.gql_reads.specs.declared.observation.Observation.{Observation}
use Rattle.gql_usage.specs.Untouched.{AreLeft}
use Rattle.gql_usage.proofs.Breaking.{gains_none}
use Rattle.gql_usage.proofs.breaks.is_verdict_untouched.Goals as goal

pub returns : goal.returns
returns c = λ t before hold. gains_none _ _ _ c.faults-faults.ensures.certificate c.args.removal.now
    (subst (λ (os : List Observation). AreLeft c.args.removal.now os) c.reading.ensures.flat (c.is_untouched.ensures t)) before hold
