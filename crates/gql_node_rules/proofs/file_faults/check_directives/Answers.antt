use Rattle.std.proofs.Common.{◌∙◌, ◌++◌, ap, map, flat_map, subst}
use Rattle.gql_node_rules.specs.Applied.{applied_at}
use Rattle.gql_node_rules.specs.Borrowed.{annotations, application, lists}
use Rattle.gql_node_rules.specs.DirectiveUses.{IsUseOf, faults_of_all}
use Rattle.gql_node_rules.specs.Resolved.{resolution, resolved_by}
use Rattle.gql_node_rules.proofs.Uses.{of_nodes, used}
use Rattle.gql_node_rules.proofs.file_faults.check_directives.Goals as goal

pub returns : goal.returns
returns c =
    let n = lists c.args.nodes.now in
    let s = c.args.schema.now in
    let nodes = ap (map annotations) c.as_slice.ensures.value ∙ c.in_ok-annotated.ensures in
    let all = ap (map application) c.as_slice-2.ensures.value ∙ c.in_ok-applied.ensures ∙ ap (flat_map applied_at) nodes in
    let known = c.in_ok-resolved.ensures ∙ (λ k. map (resolved_by (c.in_ok-signatures.ensures k)) (all k)) in
    let checked = ap (map resolution) c.as_slice-4.ensures.value ∙ known in
    let nodes_checked = ap (map annotations) c.as_slice-3.ensures.value ∙ c.in_ok-annotated.ensures in (
      c.in_ok-check_resolved.ensures ∙ (λ k. c.args.faults.now.items ++ faults_of_all s (nodes_checked k) (checked k))
          ∙ ap (λ fs. c.args.faults.now.items ++ fs) (of_nodes n s),
      used s n c.in_ok-directives.directives (subst (λ xs. IsUseOf s xs c.in_ok-directives.directives)
          (ap (map resolution) c.as_slice-5.ensures.value ∙ known) c.in_ok-directives.ensures),
    )
