use Rattle.std.proofs.Common.{rules}
use Rattle.gql_facts.proofs.Entering.{entered}
use Rattle.gql_facts.proofs.Failing.{on_error, entered_in_part}
use Rattle.gql_facts.proofs.scan.enter.Goals as goal

pub returns-then-is_composite-clause-scanned : goal.returns-then-is_composite-clause-scanned
returns-then-is_composite-clause-scanned g c = entered (g.W.World.facts c.args.world.now) c.args.of_type c.in-Some.name _ _ _ _ _ _ _ c.in-Some.is (search rules) (search rules) c.in_ok-fact.ensures.scanned c.in_ok-keep.ensures

pub returns-else-is_composite-clause-scanned : goal.returns-else-is_composite-clause-scanned
returns-else-is_composite-clause-scanned g c = entered (g.W.World.facts c.args.world.now) c.args.of_type c.in-Some.name _ _ _ _ _ _ _ c.in-Some.is (search rules) (search rules) c.in_ok-fact.ensures.scanned c.in_ok-keep.ensures

pub returns-in_err-copy-2-clause-failed : goal.returns-in_err-copy-2-clause-failed
returns-in_err-copy-2-clause-failed g c = on_error c.from_residual-in_err-copy-2.result
    (entered_in_part (g.W.World.facts c.args.world.now) c.args.of_type c.in-Some.name _ c.in-Some.is (search rules) c.in_ok-fact.ensures.scanned.records)

pub returns-in_err-keep-clause-failed : goal.returns-in_err-keep-clause-failed
returns-in_err-keep-clause-failed g c = on_error c.from_residual-in_err-keep.result
    (entered_in_part (g.W.World.facts c.args.world.now) c.args.of_type c.in-Some.name _ c.in-Some.is (search rules) c.in_ok-fact.ensures.scanned.records)

pub returns-in_err-fact-clause-failed : goal.returns-in_err-fact-clause-failed
returns-in_err-fact-clause-failed g c = on_error c.from_residual-in_err-fact.result
    (entered_in_part (g.W.World.facts c.args.world.now) c.args.of_type c.in-Some.name _ c.in-Some.is c.in_ok-copy.ensures c.in_err-fact.ensures.failed)
