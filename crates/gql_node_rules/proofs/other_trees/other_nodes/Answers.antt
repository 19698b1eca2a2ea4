use Rattle.std.proofs.Common.{◌∙◌, ap, map}
use Rattle.gql_types.specs.Definitions.{of_files}
use Rattle.gql_node_rules.specs.Borrowed.{one}
use Rattle.gql_node_rules.proofs.Held.{all_others}
use Rattle.gql_node_rules.proofs.OtherTrees.{same_nodes}
use Rattle.gql_node_rules.proofs.other_trees.other_nodes.Goals as goal

pub returns : goal.returns
returns c = λ files hold. c.in_ok-nodes.ensures
    ∙ same_nodes (of_files files) (map one c.as_slice.result.now)
    (ap (map one) c.as_slice.ensures.value ∙ c.in_ok-trees.ensures ∙ all_others files c.args.checks.now hold)
