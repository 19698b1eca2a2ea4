use Rattle.gql_node_rules.specs.Borrowed.{annotations}
use Rattle.gql_node_rules.proofs.Few.{few_alone, none_added}
use Rattle.gql_node_rules.proofs.s31_repeated_directives.check_node.Goals as goal

pub returns-then-node-lt2 : goal.returns-then-node-lt2
returns-then-node-lt2 c =
    none_added _ _ (few_alone c.args.schema.now (annotations c.args.node.now) c.if-node-lt2.true)
