use Rattle.std.proofs.Common.{arith, ◌+◌, length-take, ap, sym, ◌∙◌}
use Rattle.gql_text.specs.declared.place.Place.{Place}
use Rattle.gql_text.proofs.PlainParts.{taken_plain}
use Rattle.gql_text.proofs.lexer.past_token.Goals as goal

pub past_plain-requires-clause-plain : goal.past_plain-requires-clause-plain
past_plain-requires-clause-plain c =
    rw c.as_bytes.ensures.value (taken_plain c.args.source.now c.args.place.offset c.args.kind c.args.count c.requires.token (sym c.is_value.ensures ∙ c.if-is_value.false))

pub returns-else-is_value-clause-moved : goal.returns-else-is_value-clause-moved
returns-else-is_value-clause-moved c =
    let e = rw c.as_bytes.ensures.value at (ap (λ (p : Place). p.offset) c.past_plain.ensures) in
    omega (arith, e, length-take (c.args.place.offset + c.args.count) c.args.source.now)
