use Rattle.std.proofs.Common.{arith, take, bytes_eq, string_bytes}
use Rattle.std.proofs.lemmas.Grind.{text_counts, common_steps}
use Rattle.std.proofs.lemmas.List.Sums.{count_by-le-length}
use Rattle.gql_stored.specs.declared.effect.Effect.{Effect}
use Rattle.gql_stored.proofs.counts.counts_of.Goals as goal

pub overflow_add-seen : goal.overflow_add-seen
overflow_add-seen c = grind (
  arith,
  common_steps,
  c.loop-effect.invariant c.as_str-to.result.now,
  count_by-le-length (λ (e : Effect). bytes_eq c.as_str-to.result.now (string_bytes e.to)) (take c.loop-effect.effect-index c.args.effects.now),
)

pub loop-effect-preserved : goal.loop-effect-preserved
loop-effect-preserved c = λ q. grind (arith, text_counts)
