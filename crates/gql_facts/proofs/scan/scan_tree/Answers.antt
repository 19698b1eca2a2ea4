use Rattle.gql_facts.proofs.Failing.{on_error, tree_failed}
use Rattle.gql_facts.proofs.scan.scan_tree.Goals as goal

pub returns-in_err-scan_fragment-in-Fragment-clause-failed : goal.returns-in_err-scan_fragment-in-Fragment-clause-failed
returns-in_err-scan_fragment-in-Fragment-clause-failed g c = on_error c.from_residual-in_err-scan_fragment-in-Fragment.result
    (tree_failed (g.W.World.facts c.args.world.now) c.args.tree.now c.get-in-Fragment.result.now c.in-Fragment.fragment c.in-Fragment.is c.get-in-Fragment.ensures c.in_err-scan_fragment-in-Fragment.ensures.failed)
