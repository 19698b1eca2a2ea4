use Rattle.std.proofs.Common.{◌≡◌, true, false, arith}
use Rattle.gql_text.specs.declared.token.Kind.TheVariants as k
use Rattle.gql_grammar.specs.Symbol.{before}
use Rattle.gql_grammar.proofs.Loops.{fault_reads, going_ends}
use Rattle.gql_parse.proofs.literal.+value.Goals as goal

pub items-returns-clause-value : goal.items-returns-clause-value
items-returns-clause-value t c =
    let closed : before k.RightBracket c.items.cursor ≡ false = grind arith in
    going_ends c.items.invariant closed

pub fields-returns-clause-value : goal.fields-returns-clause-value
fields-returns-clause-value t c =
    let closed : before k.RightBrace c.fields.cursor ≡ false = grind arith in
    going_ends c.fields.invariant closed

pub items-returns-in_err-value-clause-value : goal.items-returns-in_err-value-clause-value
items-returns-in_err-value-clause-value t c =
    let more : before k.RightBracket c.items.cursor ≡ true = grind arith in
    fault_reads c.items.invariant more c.in_err-value.field-0.0 c.value.new.cursor c.in_err-value.ensures.value c.from_residual.result c.from_residual.ensures.1

pub fields-returns-in_err-object_field-clause-value : goal.fields-returns-in_err-object_field-clause-value
fields-returns-in_err-object_field-clause-value t c =
    let more : before k.RightBrace c.fields.cursor ≡ true = grind arith in
    fault_reads c.fields.invariant more c.in_err-object_field.field-0.0 c.object_field.new.cursor c.in_err-object_field.ensures.value c.from_residual.result c.from_residual.ensures.1
