use Rattle.std.proofs.Common.{refl}
use Rattle.gql_facts.proofs.Entering.{scanned_definition}
use Rattle.gql_facts.proofs.Failing.{on_error, definition_failed}
use Rattle.gql_facts.proofs.walk.scan_definition.Goals as goal

pub returns-clause-scanned : goal.returns-clause-scanned
returns-clause-scanned g c = scanned_definition (g.W.World.facts c.args.world.now) c.args.definition.now
    c.in_ok-float_read.ensures c.in_ok-keep.ensures c.in_ok-scan_tree.ensures.scanned

pub returns-in_err-scan_tree-clause-failed : goal.returns-in_err-scan_tree-clause-failed
returns-in_err-scan_tree-clause-failed g c = on_error c.from_residual-in_err-scan_tree.result
    (definition_failed (g.W.World.facts c.args.world.now) c.args.definition.now refl c.in_err-scan_tree.ensures.failed)
