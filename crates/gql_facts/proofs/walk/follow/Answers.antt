use Rattle.gql_facts.proofs.Failing.{on_error, followed_failed}
use Rattle.gql_facts.proofs.walk.follow.Goals as goal

pub returns-in_err-scan_fragment-clause-failed : goal.returns-in_err-scan_fragment-clause-failed
returns-in_err-scan_fragment-clause-failed g c = on_error c.from_residual-in_err-scan_fragment.result
    (followed_failed (g.W.World.facts c.args.world.now) c.args.fact.now c.get.result.now c.in-Fragment.found c.in-Fragment.is c.get.ensures c.in_err-scan_fragment.ensures.failed)
