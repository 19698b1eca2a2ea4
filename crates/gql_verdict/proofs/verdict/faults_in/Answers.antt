use Rattle.std.specs.Prelude.{◌⊎◌, Contains}
use Rattle.std.proofs.Common.{◌∙◌, sym, subst}
use Rattle.gql_facts.specs.ListMembers.{Contains-nil}
use Rattle.gql_facts.specs.Members.{Lists}
use Rattle.gql_merge.specs.MergeFaults.{IsMergeFault}
use Rattle.gql_merge.specs.Clean.{AreClean}
use Rattle.gql_rules.specs.LocalFaults.{IsFault}
use Rattle.gql_vars.specs.VariableFaults.{IsVariableFault}
use Rattle.gql_verdict.specs.V30SingleRootField.{IsRootFault}
use Rattle.gql_verdict.proofs.Certified.{Lists-append, by_all}
use Rattle.gql_verdict.proofs.verdict.faults_in.Goals as goal

pub returns-clause-faults : goal.returns-clause-faults
returns-clause-faults g c =
    let F = g.W.World.facts c.args.world.now in
    let d = c.args.definition.now in
    let of_nodes = subst (λ l. Lists l (IsFault F d)) (sym c.in_ok-faults.ensures) c.in_ok-of_nodes.ensures.found in
    let of_variables = subst (λ f. Lists c.in_ok-of_variables.of_variables.items (IsVariableFault f d)) c.local_faults.ensures.facts c.in_ok-of_variables.ensures.found in
    let to_roots = c.variable_faults.ensures.facts ∙ c.local_faults.ensures.facts in
    let of_root = subst (λ f. Lists c.in_ok-of_root.of_root.items (IsRootFault f d)) to_roots c.in_ok-of_root.ensures.found in
    let of_merging = subst (λ f. Lists c.in_ok-of_merging.of_merging.items (IsMergeFault f d)) (c.root_faults.ensures.facts ∙ to_roots) c.in_ok-of_merging.ensures.found in
    let two = Lists-append _ _ _ of_nodes of_variables c.in_ok-share_into.ensures in
    let three = Lists-append {P = λ f. IsFault F d f ⊎ IsVariableFault F d f} _ _ _ two of_root c.in_ok-share_into-2.ensures in
    by_all F d _ (Lists-append {P = λ f. (IsFault F d f ⊎ IsVariableFault F d f) ⊎ IsRootFault F d f} _ _ _ three of_merging c.in_ok-add_shared.ensures)

pub returns-clause-merging : goal.returns-clause-merging
returns-clause-merging g c =
    let F = g.W.World.facts c.args.world.now in
    let d = c.args.definition.now in
    let of_merging = subst (λ f. Lists c.in_ok-of_merging.of_merging.items (IsMergeFault f d)) (c.root_faults.ensures.facts ∙ c.variable_faults.ensures.facts ∙ c.local_faults.ensures.facts) c.in_ok-of_merging.ensures.found in
    λ t f m. Contains-nil f (subst (λ l. Contains l f) (sym c.as_slice.ensures.value ∙ c.are_none-is_clean.ensures t) (of_merging.complete f m))

pub returns-in_err-add_shared-clause-clean : goal.returns-in_err-add_shared-clause-clean
returns-in_err-add_shared-clause-clean g c =
    subst (λ f. AreClean f c.merge_faults_with.new.clean) (c.root_faults.ensures.facts ∙ c.variable_faults.ensures.facts ∙ c.local_faults.ensures.facts) c.merge_faults_with.ensures.clean
