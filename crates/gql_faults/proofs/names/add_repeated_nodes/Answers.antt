use Rattle.std.proofs.Common.{arith}
use Rattle.std.proofs.lemmas.Grind.{common_steps}
use Rattle.gql_faults.proofs.Counting.{few_repeated}
use Rattle.gql_faults.specs.Faults.{own_name_of}
use Rattle.gql_faults.proofs.names.add_repeated_nodes.Goals as goal

pub returns-then-nodes-lt2 : goal.returns-then-nodes-lt2
returns-then-nodes-lt2 g c =
    grind (arith, common_steps, few_repeated c.args.rule (own_name_of g.T.HasOwnName.own_name) c.args.nodes.now c.if-nodes-lt2.true)
