use Rattle.std.proofs.Common.{◌∙◌, ap}
use Rattle.gql_node_rules.specs.Borrowed.{lists}
use Rattle.gql_node_rules.specs.DirectiveUses.{is_referred}
use Rattle.gql_node_rules.specs.Resolved.{of_all, role_faults, to_float, unknown}
use Rattle.gql_node_rules.proofs.Looked.{roles_same, known_same, floats_same, three_added}
use Rattle.gql_node_rules.proofs.file_faults.check_references.Goals as goal

pub returns : goal.returns
returns c =
    let n = lists c.args.nodes.now in
    let s = c.args.schema.now in
    let found = c.in_ok-references.ensures in (
      three_added _ _ _ _ _ _ _ _ _ _ c.in_ok-check_roles.ensures c.in_ok-check_known.ensures c.in_ok-check_floats.ensures
          (ap role_faults found ∙ roles_same n s) (ap (of_all unknown) found ∙ known_same n s) (ap (of_all to_float) found ∙ floats_same n s),
      λ q. c.in_ok-names.ensures q ∙ ap (λ r. is_referred r q) found,
    )
