use Rattle.std.specs.Prelude.{refl}
use Rattle.gql_vars.proofs.Whole.{lists, all_of}
use Rattle.gql_vars.proofs.operation.operation_faults.Goals as goal

pub returns-clause-found : goal.returns-clause-found
returns-clause-found g c =
    let F = g.W.World.facts c.args.world.now in
    let d = c.args.definition.now in
    lists F d c.args.operation.now c.args.members.now c.requires
    c.check-2.new.faults.items
    (all_of F _ d c.args.operation.now c.args.members.now c.in_ok-owner.owner c.as_slice-variables.result.now c.args.members.now
    c.new-faults.result.items _ _ _ _ c.in_ok-owner.ensures c.as_slice-variables.ensures refl
    c.in_ok-check_types.ensures.facts c.new-faults.ensures.items
    c.in_ok-check.ensures c.in_ok-check_types.ensures.found c.in_ok-check_uses.ensures c.in_ok-check-2.ensures.found)
