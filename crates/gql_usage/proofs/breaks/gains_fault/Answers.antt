use Rattle.gql_usage.proofs.Breaking.{gained_by}
use Rattle.gql_usage.proofs.breaks.gains_fault.Goals as goal

pub returns-clause-gains : goal.returns-clause-gains
returns-clause-gains g c = λ before hold. gained_by before (g.W.World.facts c.args.world.now) c.args.verdict.now c.in_ok-after.after
    c.def-definition.result.now c.faults-before.result.now c.faults.result.now c.def-definition.ensures c.faults-before.ensures.value c.faults.ensures.value
    c.faults-before.ensures.certificate hold c.in_ok-after.ensures.verdict c.has_new.result c.has_new.ensures
