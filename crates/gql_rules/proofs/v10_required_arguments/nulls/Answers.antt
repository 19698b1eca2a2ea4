use Rattle.std.proofs.Common.{arith}
use Rattle.std.proofs.lemmas.Map.Text.{text_keys}
use Rattle.std.proofs.lemmas.Grind.{common_steps}
use Rattle.gql_rules.proofs.v10_required_arguments.nulls.Goals as goal

pub loop-argument-preserved : goal.loop-argument-preserved
loop-argument-preserved c = record {
  lacking = λ q. grind (arith, common_steps, text_keys, c.loop-argument.invariant.lacking q, c.loop-argument.invariant.null q);
  null = λ q. grind (arith, common_steps, text_keys, c.loop-argument.invariant.null q);
}
