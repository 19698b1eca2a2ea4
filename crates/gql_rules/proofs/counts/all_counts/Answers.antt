use Rattle.std.proofs.Common.{arith, take, bytes_eq}
use Rattle.std.proofs.lemmas.Grind.{text_counts, common_steps}
use Rattle.std.proofs.lemmas.List.Sums.{count_by-le-length}
use Rattle.gql_rules.proofs.counts.all_counts.Goals as goal

pub overflow_add-seen : goal.overflow_add-seen
overflow_add-seen g c = grind (
  arith,
  common_steps,
  c.loop-thing.invariant c.name-name.result.now,
  count_by-le-length (λ x. bytes_eq c.name-name.result.now (g.T.IsNamed.name x)) (take c.loop-thing.thing-index c.args.all.now),
)

pub loop-thing-preserved : goal.loop-thing-preserved
loop-thing-preserved g c = λ q. grind (arith, text_counts)
