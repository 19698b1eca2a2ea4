use Rattle.std.proofs.Common.{arith, rules}
use Rattle.gql_types.proofs.TypesAround.{kept_next, print_there}
use Rattle.gql_types.proofs.types_around.add_kept.Goals as goal

pub loop-place-preserved : goal.loop-place-preserved
loop-place-preserved c = (
  omega (arith, c.loop-place.invariant.0),
  λ sites start.
      kept_next c.args.edit.now c.args.from c.loop-place.place sites c.args.list.now c.loop-place.list c.add_kept_at.new.list c.loop-place.invariant.0 (search rules)
      (c.loop-place.invariant.1 sites) c.in_ok-add_kept_at.ensures start,
)

pub add_kept_at-requires-clause-print : goal.add_kept_at-requires-clause-print
add_kept_at-requires-clause-print c = λ t there. print_there c.args.edit.now.schema.now.types c.args.prints.now c.loop-place.place t c.requires.prints there
