use Rattle.std.proofs.Common.{subst, sym}
use Rattle.gql_facts.specs.Members.{Lists}
use Rattle.gql_single_root.specs.V30SingleRootField.{IsFault}
use Rattle.gql_single_root.specs.Walks.{HasAll}
use Rattle.gql_single_root.proofs.Reading.{has_all}
use Rattle.gql_single_root.proofs.Whole.{none_once, of_no_root, of_root}
use Rattle.gql_single_root.proofs.v30_single_root_field.subscription_faults.Goals as goal

pub returns-clause-found : goal.returns-clause-found
returns-clause-found g c =
    of_no_root (g.W.World.facts c.args.world.now) c.args.definition.now c.in_ok-root.root _ c.in_ok-root.ensures.root c.in-None.is c.new.ensures.empty

pub returns-clause-once : goal.returns-clause-once
returns-clause-once g c = none_once _ c.new.ensures.empty

pub root_faults-requires : goal.root_faults-requires
root_faults-requires g c =
    subst (λ H. HasAll H c.in-Some.root c.args.operation.now.selections c.args.members.now) (sym c.in_ok-root.ensures.facts)
    (has_all (g.W.World.facts c.args.world.now) c.args.definition.now c.args.operation.now c.requires.tree (g.W.World.names c.args.world.now) c.in-Some.root c.args.members.now
    (g.met.W.World.is_world c.args.world.now) c.requires.members)

pub returns-in-Some-clause-found : goal.returns-in-Some-clause-found
returns-in-Some-clause-found g c =
    let F = g.W.World.facts c.args.world.now in
    of_root F c.args.definition.now c.args.operation.now c.in-Some.root c.in_ok-root.root _ c.requires.tree c.requires.kind c.in_ok-root.ensures.root c.in-Some.is
    (subst (λ H. Lists c.in_ok-faults-in-Some.faults.keys (IsFault H c.in-Some.root c.args.definition.now.file c.args.operation.now)) c.in_ok-root.ensures.facts
    c.in_ok-faults-in-Some.ensures.found)
