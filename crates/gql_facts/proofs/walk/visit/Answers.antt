use Rattle.std.proofs.Common.{rules}
use Rattle.gql_facts.proofs.Failing.{on_error, visited_failed}
use Rattle.gql_facts.proofs.walk.visit.Goals as goal

pub returns-in_err-follow-clause-failed : goal.returns-in_err-follow-clause-failed
returns-in_err-follow-clause-failed g c = on_error c.from_residual-in_err-follow.result (visited_failed (g.W.World.facts c.args.world.now) c.args.keys.now.keys c.args.at c.in-Some.key.now
    (search rules) c.in_ok-fact.ensures.answer c.in_ok-fact.ensures.facts c.in_ok-fact.ensures.asked c.in_err-follow.ensures.failed)
