use Rattle.std.proofs.Common.{◌≡◌, ◌∙◌, true, false, arith}
use Rattle.gql_text.specs.declared.token.Kind.TheVariants as k
use Rattle.gql_grammar.specs.Symbol.{before}
use Rattle.gql_grammar.proofs.Loops.{going_on, going_ends, some_began, some_fault}
use Rattle.gql_parse_sdl.specs.Fields.{field}
use Rattle.gql_grammar.proofs.Rests.{rest_then}
use Rattle.gql_parse_sdl.proofs.fields.field_list.Goals as goal

pub fields-preserved : goal.fields-preserved
fields-preserved c =
    let more : before k.RightBrace c.fields.cursor ≡ true = grind arith in
    going_on _ _ c.fields.invariant more c.in_ok-field-2.ensures.value c.in_ok-field-2.ensures.rest _ c.in_ok-push-2.ensures.ok

pub returns-clause-value : goal.returns-clause-value
returns-clause-value c =
    let closed : before k.RightBrace c.fields.cursor ≡ false = grind arith in
    some_began (before k.RightBrace) field c.args.cursor.now c.field.new.cursor c.in_ok-field.field-0 c.push.new.self c.in_ok-field.ensures.value (grind arith) ∙ going_ends c.fields.invariant closed

pub returns-in_err-field-2-clause-value : goal.returns-in_err-field-2-clause-value
returns-in_err-field-2-clause-value c =
    let more : before k.RightBrace c.fields.cursor ≡ true = grind arith in
    let began = some_began (before k.RightBrace) field c.args.cursor.now c.field.new.cursor c.in_ok-field.field-0 c.push.new.self c.in_ok-field.ensures.value (grind arith) in
    some_fault _ began c.fields.invariant more c.in_err-field-2.field-0.0 c.field-in-fields.new.cursor c.in_err-field-2.ensures.value c.from_residual-in_err-field-2.result c.from_residual-in_err-field-2.ensures.1

pub returns-in_err-field-2-clause-rest : goal.returns-in_err-field-2-clause-rest
returns-in_err-field-2-clause-rest c = rest_then c.field-in-fields.ensures.rest (rest_then c.fields.invariant.rest c.field.ensures.rest)

pub returns-in_err-push-2-clause-rest : goal.returns-in_err-push-2-clause-rest
returns-in_err-push-2-clause-rest c = rest_then c.field-in-fields.ensures.rest (rest_then c.fields.invariant.rest c.field.ensures.rest)
