use Rattle.std.proofs.Common.{arith, ◌+◌, length-take, ap}
use Rattle.gql_text.specs.declared.place.Place.{Place}
use Rattle.gql_text.proofs.lexer.past_part.Goals as goal

pub returns-clause-moved : goal.returns-clause-moved
returns-clause-moved c =
    let e = rw c.as_bytes.ensures.value at (ap (λ (p : Place). p.offset) c.past.ensures) in
    omega (arith, e, length-take (c.args.place.offset + c.args.count) c.args.source.now)
