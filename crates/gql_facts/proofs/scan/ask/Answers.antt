use Rattle.gql_facts.proofs.Scanning.{asked_scan}
use Rattle.gql_facts.proofs.Failing.{on_error, records_noted}
use Rattle.gql_facts.proofs.scan.ask.Goals as goal

pub returns-clause-scanned : goal.returns-clause-scanned
returns-clause-scanned g c = asked_scan (g.W.World.facts c.args.world.now) c.args.key c.args.keys.now.keys _ (g.W.World.asked c.args.world.now) _ c.in_ok-insert.ensures.keys c.in_ok-fact.ensures.asked

pub returns-in_err-insert-clause-failed : goal.returns-in_err-insert-clause-failed
returns-in_err-insert-clause-failed g c = on_error c.from_residual-in_err-insert.result (records_noted (g.W.World.facts c.args.world.now) c.args.key c.in_ok-fact.ensures.asked)
