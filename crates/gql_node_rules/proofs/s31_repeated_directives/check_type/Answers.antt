use Rattle.std.proofs.Common.{arith}
use Rattle.std.proofs.lemmas.Grind.{common_steps}
use Rattle.gql_node_rules.proofs.Few.{few_on_type, none_added}
use Rattle.gql_node_rules.proofs.s31_repeated_directives.check_type.Goals as goal

pub returns-then-len-lt2 : goal.returns-then-len-lt2
returns-then-len-lt2 c = none_added _ _ (few_on_type c.args.schema.now c.args.of_type.now
    (c.is_empty.ensures.0 c.if-is_empty.true) (grind (arith, common_steps, c.get.ensures, c.len.ensures, c.if-len-lt2.true)))
