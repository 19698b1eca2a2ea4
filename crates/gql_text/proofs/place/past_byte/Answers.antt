use Rattle.std.proofs.Common.{arith}
use Rattle.gql_text.proofs.Places.{place_bound}
use Rattle.gql_text.proofs.place.past_byte.Goals as goal

pub overflow_add-line : goal.overflow_add-line
overflow_add-line c = omega (arith, place_bound c.args.source.now c.args.place.offset c.args.place c.requires.known)

pub overflow_add-column : goal.overflow_add-column
overflow_add-column c = omega (arith, place_bound c.args.source.now c.args.place.offset c.args.place c.requires.known)

pub overflow_add-result : goal.overflow_add-result
overflow_add-result c = omega (arith, place_bound c.args.source.now c.args.place.offset c.args.place c.requires.known)
