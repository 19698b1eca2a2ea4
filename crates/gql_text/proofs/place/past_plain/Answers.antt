use Rattle.std.proofs.Common.{arith}
use Rattle.gql_text.specs.Parts.{is_plain}
use Rattle.gql_text.proofs.Places.{place_bound}
use Rattle.gql_text.proofs.Plain.{place_plain, run_within}
use Rattle.gql_text.proofs.place.past_plain.Goals as goal

pub overflow_add-result : goal.overflow_add-result
overflow_add-result c =
    omega (arith, place_bound c.args.source.now c.args.place.offset c.args.place c.requires.known, run_within is_plain c.args.source.now c.args.place c.args.count c.requires.known c.requires.plain)

pub overflow_add-result-2 : goal.overflow_add-result-2
overflow_add-result-2 c = omega (arith, run_within is_plain c.args.source.now c.args.place c.args.count c.requires.known c.requires.plain)

pub returns : goal.returns
returns c = place_plain c.args.source.now c.args.place c.args.count c.requires.known c.requires.plain
