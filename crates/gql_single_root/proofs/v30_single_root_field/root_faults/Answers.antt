use Rattle.std.proofs.Common.{map, subst}
use Rattle.gql_facts.specs.Members.{Lists}
use Rattle.gql_single_root.specs.Walks.{IsFaultOf, IsRootField, found_of}
use Rattle.gql_single_root.proofs.Whole.{by_fields}
use Rattle.gql_single_root.proofs.v30_single_root_field.root_faults.Goals as goal

pub returns-clause-found : goal.returns-clause-found
returns-clause-found g c =
    let F = g.W.World.facts c.args.world.now in
    let root = c.args.root.now in
    let file = c.args.file.now in
    let o = c.args.operation.now in
    by_fields F root file o c.in_ok-fields.fields.items
    (subst (λ l. Lists (map found_of c.in_ok-fields.fields.items) (IsRootField F root file l)) c.as_slice-set.ensures c.in_ok-fields.ensures.fields)
    c.in_ok-faults.faults.keys
    (subst (λ l. Lists c.in_ok-faults.faults.keys (IsFaultOf l file o)) c.as_slice.ensures.value c.in_ok-faults.ensures.found)
