use Rattle.std.proofs.Common.{arith, take, bytes_eq}
use Rattle.std.proofs.lemmas.Grind.{text_counts, common_steps}
use Rattle.std.proofs.lemmas.List.Sums.{count_by-le-length}
use Rattle.gql_faults.specs.declared.place.NamePlace.{NamePlace}
use Rattle.gql_faults.proofs.names.counts.Goals as goal

pub overflow_add-seen : goal.overflow_add-seen
overflow_add-seen c = grind (
  arith,
  common_steps,
  c.loop-name.invariant c.as_str-text.result.now,
  count_by-le-length (λ (n : NamePlace). bytes_eq c.as_str-text.result.now n.name.now.text) (take c.loop-name.name-index c.args.names.now),
)

pub loop-name-preserved : goal.loop-name-preserved
loop-name-preserved c = λ q. grind (arith, text_counts)
