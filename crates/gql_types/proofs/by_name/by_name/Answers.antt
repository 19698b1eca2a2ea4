use Rattle.std.proofs.Common.{arith}
use Rattle.std.proofs.lemmas.Grind.{text_groups}
use Rattle.gql_types.proofs.by_name.by_name.Goals as goal

pub loop-thing-preserved : goal.loop-thing-preserved
loop-thing-preserved g c = grind (arith, text_groups)
