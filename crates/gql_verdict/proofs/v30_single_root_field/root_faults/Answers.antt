use Rattle.gql_verdict.proofs.Certified.{of_roots}
use Rattle.gql_verdict.proofs.v30_single_root_field.root_faults.Goals as goal

pub returns-clause-found : goal.returns-clause-found
returns-clause-found g c =
    of_roots (g.W.World.facts c.args.world.now) c.args.definition.now _ _ _ _ c.in_ok-faults.ensures c.in_ok-owner.ensures c.as_slice.ensures.keys c.in_ok-found.ensures.found
