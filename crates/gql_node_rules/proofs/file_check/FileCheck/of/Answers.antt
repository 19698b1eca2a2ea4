use Rattle.gql_node_rules.specs.Borrowed.{lists}
use Rattle.gql_node_rules.proofs.Checked.{checked, four_added}
use Rattle.gql_node_rules.proofs.file_check.FileCheck.of.Goals as goal

pub returns : goal.returns
returns c = checked c.args.schema.now c.args.document.now (lists c.in_ok-nodes.nodes) _ c.in_ok-nodes.ensures
    (four_added _ _ _ _ _ _ _ _ _ _ _ c.new-faults.ensures.items c.in_ok-check_names.ensures c.in_ok-types.ensures.0 c.in_ok-directives.ensures.0
    c.in_ok-check_built_in_directives.ensures c.in_ok-faults.ensures)
    c.in_ok-types.ensures.1 c.in_ok-directives.ensures.1 c.in_ok-has_appends.ensures c.in_ok-definitions.ensures
