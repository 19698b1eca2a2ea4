use Rattle.std.proofs.Common.{◌≡◌, ◌++◌, ◌∙◌, [], ap, sym, arith, flat_map}
use Rattle.std.proofs.lemmas.Bool.Decides.{nat_tests}
use Rattle.std.proofs.lemmas.List.{nil_from_length}
use Rattle.gql_vars.specs.Misuses.{misuse, misuses_of_member, usage_faults}
use Rattle.gql_vars.specs.Usages.{operation_usages}
use Rattle.gql_vars.proofs.UsageParts.{no_variables}
use Rattle.gql_vars.proofs.UsageVisits.{two}
use Rattle.gql_vars.proofs.usage_nodes.check.Goals as goal

pub returns-clause-found : goal.returns-clause-found
returns-clause-found g c =
    let F = g.W.World.facts c.args.world.now in
    let owner = c.args.owner.now in
    let vs = c.as_slice-variables.result.now in
    two c.args.faults.now.items _ _ (flat_map (misuse F owner vs) (operation_usages F c.args.file.now c.args.operation.now))
    (flat_map (misuses_of_member F owner vs) c.args.members.now)
    (c.in_ok-check_own.ensures.found vs c.in_ok-first.ensures)
    (c.in_ok-check_members.ensures.found vs c.in_ok-first.ensures
    ∙ ap (λ f. c.check_own.new.faults.items ++ flat_map (misuses_of_member f owner vs) c.args.members.now) c.in_ok-check_own.ensures.facts)
    ∙ ap (λ xs. c.args.faults.now.items ++ usage_faults F owner c.args.file.now c.args.operation.now c.args.members.now xs) c.as_slice-variables.ensures

pub returns-then-is_empty-clause-found : goal.returns-then-is_empty-clause-found
returns-then-is_empty-clause-found g c =
    let none : c.args.operation.now.variables ≡ [] =
    sym c.as_slice-variables.ensures ∙ nil_from_length c.as_slice-variables.result.now (grind (arith, nat_tests, c.is_empty.ensures, c.if-is_empty.true)) in
    no_variables c.args.faults.now.items (g.W.World.facts c.args.world.now) c.args.owner.now c.args.file.now c.args.operation.now c.args.members.now
    c.args.operation.now.variables none
